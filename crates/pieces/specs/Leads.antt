-- How a statement begins, as code sees it, against the model parser's table of first words.
use Rattle.std.specs.Prelude.{◌≡◌, ℕ, ◌+◌, ◌≤◌, true, List, [], ◌∷◌, length}
use Rattle.pieces.specs.declared.lead.Lead as code
use Rattle.pieces.specs.declared.lead.Lead.TheVariants.{Out, If, While, Return, Break, Next, Named, Other}
use Rattle.language.specs.Syntax.{Name}
use Rattle.grammar.specs.Text.{pieces, gap, is_name}
use Rattle.grammar.specs.ParseAll.{Lead, l_out, l_if, l_while, l_return, l_break, l_next, l_name, l_other, lead}

abbrev pub lead_of : code.Lead → Lead
lead_of Out = l_out
lead_of If = l_if
lead_of While = l_while
lead_of Return = l_return
lead_of Break = l_break
lead_of Next = l_next
lead_of (Named x) = l_name
lead_of Other = l_other

abbrev pub head_lead : List Name → Lead
head_lead [] = l_other
head_lead (w ∷ s) = lead w

abbrev pub LeadFine : code.Lead → Name → Type 0
LeadFine Out x = Unit {0}
LeadFine If x = Unit {0}
LeadFine While x = Unit {0}
LeadFine Return x = Unit {0}
LeadFine Break x = Unit {0}
LeadFine Next x = Unit {0}
LeadFine (Named w) x = (x ≡ w.now) × (is_name x ≡ true) × (length x ≤ 32)
LeadFine Other x = Unit {0}

pub record Leads (k : code.Lead) (x : Name) : Type 0 where
  pub is : lead x ≡ lead_of k
  pub fine : LeadFine k x

pub record LeadFirst (k : code.Lead) (t r : List ℕ) : Type 0 where
  pub word : Name
  pub said : pieces gap t ≡ word ∷ pieces gap r
  pub is : lead word ≡ lead_of k
  pub fine : LeadFine k word
  pub less : length r + length word ≤ length t
  pub some : 1 ≤ length word

abbrev pub Led : code.Lead → List ℕ → List ℕ → Type 0
Led Out t r = LeadFirst Out t r
Led If t r = LeadFirst If t r
Led While t r = LeadFirst While t r
Led Return t r = LeadFirst Return t r
Led Break t r = LeadFirst Break t r
Led Next t r = LeadFirst Next t r
Led (Named w) t r = LeadFirst (Named w) t r
Led Other t r = head_lead (pieces gap t) ≡ l_other
