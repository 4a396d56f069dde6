-- The two halves of the checks are the checks, and what a text reads as by what the parser and the checks say.
use Rattle.std.proofs.Common.{◌≡◌, ℕ, ◌≤◌, Bool, true, false, not, ◌&&◌, T, ltb, leb, Result, Err, List, [], ◌∷◌, length, sym, refl, ap, ◌∙◌, subst, ap₂, true≢false, leb→le, nltb→le}
use mathlib.Core.Option.{Option, some, none}
use Rattle.language.specs.Syntax.{pick, Name, Item, i_word, i_arr, i_data, i_table, i_fn, i_use, Prog}
use Rattle.language.specs.Checks.{ok, has_main}
use Rattle.grammar.specs.Text.{pieces, gap}
use Rattle.grammar.specs.Parse.{got}
use Rattle.grammar.specs.ParseAll.{parse}
use Rattle.grammar.specs.Reading.{small, reading}
use Rattle.grammar.proofs.PieceKinds.{true_of, and_0}
use Rattle.grammar.proofs.Reading.{reading-sound}
use Rattle.limits.specs.Split.{item_resolved as item_l, items_resolved as items_l, files_resolved as files_l, resolved as resolved_l}
use Rattle.names.specs.Resolved.{item_resolved, items_resolved, files_resolved, resolved}
use Rattle.parser.specs.Programs.{Unread}
use Rattle.front.specs.declared.Unreadable.{Unreadable}
use Rattle.front.specs.declared.Unreadable.TheVariants.{Few, NoProgram}
use Rattle.front.specs.Answers.{CheckSays, ReadSays}

same_item : (p : Prog) (f : Name) (i : Item) → item_resolved p f i ≡ item_l p f i
same_item p f (i_word x) = refl
same_item p f (i_arr a) = refl
same_item p f (i_data w x ns) = refl
same_item p f (i_table x fs) = refl
same_item p f (i_fn g) = refl
same_item p f (i_use y xs) = refl

same-items : (p : Prog) (f : Name) (is : List Item) → items_resolved p f is ≡ items_l p f is
same-items p f [] = refl
same-items p f (i ∷ is) = ap₂ (λ (a b : Bool). a && b) (same_item p f i) (same-items p f is)

same-files : (p q : Prog) → files_resolved p q ≡ files_l p q
same-files p [] = refl
same-files p (f ∷ fs) = ap₂ (λ (a b : Bool). a && b) (same-items p f.name f.items) (same-files p fs)

-- the two crates say the same of what needs look-ups
pub same-resolved : (p : Prog) → resolved p ≡ resolved_l p
same-resolved p = ap (λ (b : Bool). has_main p && b) (same-files p p)

pub none_read : (t : List ℕ) → Unread t → reading t ≡ none
none_read t u = go (reading t) refl
  where
    go : (o : Option Prog) → reading t ≡ o → reading t ≡ none
    go none e = e
    go (some p) e = let r = reading-sound t p e in absurd (u p r.said r.small)

pub read_as : (t : List ℕ) (p : Prog) (b : Bool) → parse (pieces gap t) ≡ got p [] → T (small t) → b ≡ ok p → reading t ≡ pick b (some p) none
unfolding reading
read_as t p b e s o = rw (e, true_of (small t) s, ← o) refl

-- there are enough words
pub enough : {b : Bool} (w n : ℕ) → b ≡ ltb w n → b ≡ false → n ≤ w
enough w n e f = go (ltb w n) refl (sym e ∙ f)
  where
    go : (c : Bool) → ltb w n ≡ c → ltb w n ≡ false → n ≤ w
    go true g h = absurd (true≢false (sym g ∙ h))
    go false g h = nltb→le w n (subst (λ (c : Bool). T (not c)) (sym g) tt)

-- a text that is read has few bytes
pub bytes-few : (t : List ℕ) → T (small t) → length t ≤ 32768
bytes-few t h = leb→le (length t) 32768 (and_0 (leb (length t) 32768) _ h)

-- what `check` refuses, `read` does
pub same-refusal : (t : List ℕ) (w : ℕ) (e : Unreadable) → CheckSays t w (Err e) → ReadSays t w (Err e)
same-refusal t w Few h = h
same-refusal t w NoProgram h = h
