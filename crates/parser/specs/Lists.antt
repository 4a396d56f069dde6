-- What the code that reads lists answers: the list, its row, and how many there are. Rests on Outcome (bodies) and on the rows of trees.
use Rattle.std.specs.Prelude.{◌≡◌, ℕ, ◌+◌, ◌*◌, ◌<◌, ◌≤◌, List, [], ◌∷◌, length, Bool, true, false, Result, MatchOption, MatchResult}
use Rattle.std.specs.Borrow.{Bor}
use Rattle.std.specs.declared.option.Option as std
use Rattle.std.proofs.Math.Option.{some, none}
use Rattle.language.specs.Syntax.{pick, opt, Name, Kind, k_word, k_arr, Param, Arr}
use Rattle.grammar.specs.Text.{pieces, gap, t_lb, t_rb, t_semi}
use Rattle.grammar.specs.Parse.{Res, fail, got, bind, eat, num_of}
use Rattle.grammar.specs.ParseAll.{nums_in, in_quotes}
use Rattle.rows.specs.declared.row.Row.{Row}
use Rattle.rows.specs.declared.kind.LocalKind.{LocalKind}
use Rattle.rows.specs.declared.kind.LocalKind.TheVariants.{Word, Bytes, Words}
use Rattle.rows.specs.Has.{named}
use Rattle.rows.specs.Trees.{list_row, local_row, of_param, of_var, of_array}
use Rattle.pieces.specs.declared.refused.Refused.{Refused}
use Rattle.pieces.specs.Seen.{ate, Ate}
use Rattle.rows.specs.Row.{Wrote}
use Rattle.bodies.specs.Outcome.{Spent, Did}

-- a list, with how many there are in it
pub record DidList {A : Type 0} (d : ℕ) (m : Res (List A)) (row : A → List ℕ) (s r : List ℕ) (k : ℕ) (o p : Row) : Type 0 where
  pub did : Did d m (list_row row) s r o p
  pub num : length did.tree ≡ k
  pub few : k ≤ 32768

abbrev pub Listed : {A : Type 0} → ℕ → Res (List A) → (A → List ℕ) → List ℕ → Row → Row → Result (ℕ × Bor (List ℕ)) Refused → Type 0
Listed d m row s o p r = MatchResult r (λ q. DidList d m row s q.1.now q.0 o p) (λ e. m ≡ fail)

-- the rows of a function's parameters, variables and arrays; of a name that is listed, as a variable or alone
abbrev pub param_row : Param → List ℕ
param_row q = local_row (of_param q)

abbrev pub array_row : Arr → List ℕ
array_row a = local_row (of_array a)

abbrev pub name_row : Bool → Name → List ℕ
name_row local x = pick local (local_row (of_var x)) (named x)

-- a parameter's kind, as code has it
abbrev pub kind_of : LocalKind → Kind
kind_of Word = k_word
kind_of Bytes = k_arr false
kind_of Words = k_arr true

pub record KindIs (m : Res Kind) (k : LocalKind) (t r : List ℕ) : Type 0 where
  pub is : m ≡ got (kind_of k) (pieces gap r)
  pub less : length r ≤ length t

-- a size in brackets, and a semicolon
pub record Sized (n : ℕ) (t r : List ℕ) : Type 0 where
  pub word : Name
  pub said : pieces gap t ≡ t_lb ∷ word ∷ t_rb ∷ t_semi ∷ pieces gap r
  pub is : num_of word ≡ some n
  pub less : length r + 3 ≤ length t
  pub small : n < 10000000000

-- the values of an array: a text and a semicolon, or numbers
abbrev pub quoted_in : List Name → Res (List ℕ)
quoted_in [] = fail
quoted_in (q ∷ s) = opt (in_quotes q) fail (λ ns. eat t_semi s (λ r. got ns r))

abbrev pub values_in : Bool → List Name → Res (List ℕ)
values_in wide s = pick wide (nums_in s) (quoted_in s)

-- an element of a list that M reads, with what stands behind it: the sign that ends the list, a comma and more of the list, or neither
pub record Listable {A : Type 0} (end : ℕ) (M : List Name → Res (List A)) (row : A → List ℕ) (x : A) (t r : List ℕ) : Type 0 where
  pub last : (q : List ℕ) → Ate (end ∷ []) r q → M (pieces gap t) ≡ got (x ∷ []) (pieces gap q)
  pub more : (q : List ℕ) → Ate (44 ∷ []) r q → M (pieces gap t) ≡ bind (M (pieces gap q)) (λ xs z. got (x ∷ xs) z)
  pub stop : ate (end ∷ []) (pieces gap r) ≡ none → ate (44 ∷ []) (pieces gap r) ≡ none → M (pieces gap t) ≡ fail
  pub less : length r + 1 ≤ length t
  pub room : length (row x) + 4 * length r ≤ 4 * length t + 4

-- a part that stands first in a list that M reads, and was written
pub record Stands {A : Type 0} (M : List Name → Res (List A)) (row : A → List ℕ) (t r : List ℕ) (o p : Row) : Type 0 where
  pub tree : A
  pub is : M (pieces gap t) ≡ bind (M (pieces gap r)) (λ xs q. got (tree ∷ xs) q)
  pub wrote : Wrote o p (row tree)
  pub within : Spent 0 t r o p
  pub on : length r + 1 ≤ length t

-- what is read and written of a part: one, or none where the list ends, or no list
abbrev pub Parted : {A : Type 0} → (List Name → Res (List A)) → (A → List ℕ) → List ℕ → Row → Row → Result (std.Option (Bor (List ℕ))) Refused → Type 0
Parted M row t o p r = MatchResult r (λ q. MatchOption q ((M (pieces gap t) ≡ got [] (pieces gap t)) × Wrote o p []) (λ rest. Stands M row t rest.now o p)) (λ e. M (pieces gap t) ≡ fail)
