-- Items of a file, files, and a whole text, against the model parser and the grammar.
use Rattle.std.proofs.Common.{◌≡◌, ℕ, ◌+◌, ◌≤◌, Bool, true, false, ◌&&◌, T, leb, List, [], ◌∷◌, ◌++◌, length, sym, refl, ap, ◌∙◌, subst, arith, le→leb}
use mathlib.Core.Option.{none}
use Rattle.language.specs.Syntax.{pick, Name, same, Item, Prog}
use Rattle.grammar.specs.Text.{pieces, gap, is_name, t_semi, k_file, flat, calm, AreFiles}
use Rattle.grammar.specs.Parse.{Res, fail, got, bind, eat, eat_name}
use Rattle.grammar.specs.ParseAll.{item, again, items_step, files_step, parse}
use Rattle.grammar.proofs.PieceKinds.{T_of}
use Rattle.grammar.proofs.ExprSound.{Post, post-got}
use Rattle.grammar.proofs.Equations.{items-is}
use Rattle.grammar.proofs.Unrolling.{again_is}
use Rattle.grammar.proofs.ItemFuel.{files_well}
use Rattle.grammar.proofs.ItemSound.{All, parse-sound}
use Rattle.grammar.proofs.ItemComplete.{parse-complete}
use Rattle.rows.specs.declared.row.Row.{Row}
use Rattle.rows.specs.Row.{Wrote, Patched}
use Rattle.rows.specs.Has.{named}
use Rattle.rows.specs.Trees.{list_row, item_row, file_row}
use Rattle.rows.proofs.Writing.{wrote-more}
use Rattle.pieces.specs.Seen.{ate, is_no_name, Ate, AteName, no_piece}
use Rattle.bodies.specs.Outcome.{Did}
use Rattle.bodies.proofs.Expressions.{bind-fail, bind-got, not_same, eat-got, name-got, name-fail}
use Rattle.parser.specs.Lists.{DidList, Stands}
use Rattle.parser.specs.Programs.{file_of, ReadAs, Unread}
use Rattle.parser.proofs.Patching.{patched}

-- items
abbrev pub its : List Name → Res (List Item)
its = again items_step

its-nil : (s : List Name) → no_piece s ≡ true → items_step its s ≡ got [] s
its-nil [] e = refl
its-nil (w ∷ s) e = let y : ◌≡◌ {A = ℕ} 0 1 = cc in absurd (omega arith)

pub its-end : (t : List ℕ) → no_piece (pieces gap t) ≡ true → its (pieces gap t) ≡ got [] (pieces gap t)
its-end t e = items-is (pieces gap t) ∙ its-nil (pieces gap t) e

pub its-file : {t r : List ℕ} → Ate k_file t r → its (pieces gap t) ≡ got [] (pieces gap t)
its-file {t} a = items-is (pieces gap t) ∙ ap (items_step its) a.said ∙ ap (got []) (sym a.said)

its-rest : (s : List Name) → no_piece s ≡ false → ate k_file s ≡ none → items_step its s ≡ bind (item s) (λ i r. bind (its r) (λ is q. got (i ∷ is) q))
its-rest [] e f = let y : ◌≡◌ {A = ℕ} 0 1 = cc in absurd (omega arith)
its-rest (w ∷ s) e f = rw (not_same w k_file s (same w k_file) refl f)

pub its-stands : {t r : List ℕ} {o p : Row} → no_piece (pieces gap t) ≡ false → ate k_file (pieces gap t) ≡ none → Did 0 (item (pieces gap t)) item_row t r o p → Stands its item_row t r o p
its-stands {t} e g d = let n = d.on in record { tree = d.tree; is = items-is (pieces gap t) ∙ its-rest (pieces gap t) e g ∙ bind-got _ d.tree _ d.is; wrote = d.wrote; within = d.within; on = omega arith }

pub its-fail : (s : List Name) → no_piece s ≡ false → ate k_file s ≡ none → item s ≡ fail → its s ≡ fail
its-fail s e g h = items-is s ∙ its-rest s e g ∙ bind-fail _ h

-- a file
pub file-no-name : (s : List Name) → is_no_name s ≡ true → file_of s ≡ fail
file-no-name s e = name-fail s _ e

pub file-did : {t r₁ r₂ r₃ : List ℕ} {k : ℕ} {o p₁ p₂ p₃ p₄ : Row} (x : Name) → AteName x t r₁ → Ate t_semi r₁ r₂ → Wrote o p₁ (named x) → Wrote p₁ p₂ (0 ∷ []) → DidList 1 (its (pieces gap r₂)) item_row r₂ r₃ k p₂ p₃ → Patched p₃ p₄ p₁.len k → Did 0 (file_of (pieces gap t)) file_row t r₃ o p₄
file-did {k = k} {o = o} {p₁ = p₁} {p₄ = p₄} x a b w₁ w₂ d g =
    let i = a.less in let j = a.some in let n = b.less in let l₁ = w₁.long in let l₂ = w₂.long in let u = d.did.within in let m = g.long in
    let is₁ : List Item = d.did.tree in
    let far = patched (named x) (list_row item_row is₁) 0 k p₁.len l₁ (wrote-more w₁ (wrote-more w₂ d.did.wrote)) g in
    record {
      tree = record { name = x; items = is₁ };
      is = name-got x _ a ∙ eat-got t_semi _ b ∙ bind-got _ is₁ _ d.did.is;
      wrote = subst (λ (c : ℕ). Wrote o p₄ (named x ++ (c ∷ list_row item_row is₁))) (sym d.num) far;
      within = omega arith;
      on = omega arith;
    }

-- files
abbrev pub files : List Name → Res Prog
files = again files_step

files-is : (s : List Name) → files s ≡ files_step files s
files-is s = again_is files_step files_well s

bind-on : {A B C : Type 0} (m : Res A) (k : A → List Name → Res B) (g : B → List Name → Res C) → bind (bind m k) g ≡ bind m (λ a r. bind (k a r) g)
bind-on fail k g = refl
bind-on (got a r) k g = refl

pick-on : {A B : Type 0} (b : Bool) (m : Res A) (g : A → List Name → Res B) (n : Res B) → bind m g ≡ n → bind (pick b m fail) g ≡ pick b n fail
pick-on true m g n e = e
pick-on false m g n e = refl

eat-on : {A B : Type 0} (w : Name) (s : List Name) (k : List Name → Res A) (g : A → List Name → Res B) (h : List Name → Res B) → ((r : List Name) → bind (k r) g ≡ h r) → bind (eat w s k) g ≡ eat w s h
eat-on w [] k g h e = refl
eat-on w (x ∷ s) k g h e = pick-on (same x w) (k s) g (h s) (e s)

name-on : {A B : Type 0} (s : List Name) (k : Name → List Name → Res A) (g : A → List Name → Res B) (h : Name → List Name → Res B) → ((x : Name) (r : List Name) → bind (k x r) g ≡ h x r) → bind (eat_name s k) g ≡ eat_name s h
name-on [] k g h e = refl
name-on (x ∷ s) k g h e = pick-on (is_name x) (k x s) g (h x s) (e x s)

files-one : {t r : List ℕ} → Ate k_file t r → files (pieces gap t) ≡ bind (file_of (pieces gap r)) (λ f q. bind (files q) (λ fs z. got (f ∷ fs) z))
files-one {t} {r} a = files-is (pieces gap t) ∙ ap (files_step files) a.said ∙ sym (name-on (pieces gap r) _ _ _ (λ x s₁. eat-on t_semi s₁ _ _ _ (λ s₂. bind-on (its s₂) _ _)))

files-nil : (s : List Name) → no_piece s ≡ true → files_step files s ≡ got [] s
files-nil [] e = refl
files-nil (w ∷ s) e = let y : ◌≡◌ {A = ℕ} 0 1 = cc in absurd (omega arith)

pub files-end : (t : List ℕ) → no_piece (pieces gap t) ≡ true → files (pieces gap t) ≡ got [] (pieces gap t)
files-end t e = files-is (pieces gap t) ∙ files-nil (pieces gap t) e

files-rest : (s : List Name) → no_piece s ≡ false → ate k_file s ≡ none → files_step files s ≡ fail
files-rest [] e f = let y : ◌≡◌ {A = ℕ} 0 1 = cc in absurd (omega arith)
files-rest (w ∷ s) e f = rw (not_same w k_file s (same w k_file) refl f)

pub files-stop : (s : List Name) → no_piece s ≡ false → ate k_file s ≡ none → files s ≡ fail
files-stop s e g = files-is s ∙ files-rest s e g

pub file-stands : {t r q : List ℕ} {o p : Row} → Ate k_file t r → Did 0 (file_of (pieces gap r)) file_row r q o p → Stands files file_row t q o p
file-stands a d = let u = d.within in let l = a.less in let n = d.on in record { tree = d.tree; is = files-one a ∙ bind-got _ d.tree _ d.is; wrote = d.wrote; within = omega arith; on = omega arith }

pub files-fail : {t r : List ℕ} → Ate k_file t r → file_of (pieces gap r) ≡ fail → files (pieces gap t) ≡ fail
files-fail a e = files-one a ∙ bind-fail _ e

-- a whole text
joined : (a b : Bool) → T a → T b → T (a && b)
joined true b t u = u
joined false b t u = absurd t

not_got : (p : Prog) (m : Res Prog) → m ≡ fail → m ≡ got p [] → ⊥
not_got p m e f = let y : ◌≡◌ {A = ℕ} 0 1 = cc in omega arith

pub read_fail : (t : List ℕ) → files (pieces gap t) ≡ fail → Unread t
unfolding parse
read_fail t e p x y = not_got p (files (pieces gap t)) e (parse-complete x)

pub read_did : {t r : List ℕ} {k : ℕ} {o p₁ p₂ p₃ : Row} → length t ≤ 32768 → (flat 0 (pieces gap t) && calm 0 (pieces gap t)) ≡ true → Wrote o p₁ (0 ∷ []) → DidList 1 (files (pieces gap t)) file_row t r k p₁ p₂ → Patched p₂ p₃ o.len k → ReadAs t o p₃
unfolding parse
read_did {t} {k = k} {o = o} {p₃ = p₃} h e w d g =
    let said : AreFiles (pieces gap t) d.did.tree = (post-got (subst (Post (All (pieces gap t))) d.did.is (parse-sound (pieces gap t)))).1 in
    let far = patched [] (list_row file_row d.did.tree) 0 k o.len (let z : o.len ≡ o.len + 0 = omega arith in z) (wrote-more w d.did.wrote) g in
    record {
      prog = d.did.tree;
      said = said;
      parsed = parse-complete said;
      small = joined (leb (length t) 32768) _ (le→leb (length t) 32768 h) (T_of e);
      wrote = subst (λ (c : ℕ). Wrote o p₃ (c ∷ list_row file_row d.did.tree)) (sym d.num) far;
    }
