-- Lists of names, of numbers, of variables and of arrays, against the model parser.
use Rattle.std.proofs.Common.{◌≡◌, ℕ, ◌+◌, ◌≤◌, Bool, true, false, not, List, [], ◌∷◌, length, Ok, Err, Result, MatchResult, refl, ap, ◌∙◌, arith, Bor}
use mathlib.Core.Option.{none}
use Rattle.language.specs.Syntax.{pick, Name, same, Arr}
use Rattle.grammar.specs.Text.{pieces, gap, is_name, t_semi, t_comma, k_array, k_bytes, k_var}
use Rattle.grammar.specs.Parse.{Res, fail, got, bind}
use Rattle.grammar.specs.ParseAll.{size, names_in, vars_in, arr, arrs_as, arrs_step, again}
use Rattle.grammar.proofs.Equations.{arrs-is}
use Rattle.rows.specs.declared.row.Row.{Row}
use Rattle.rows.specs.Row.{Wrote}
use Rattle.rows.specs.Nodes.{num_row}
use Rattle.rows.specs.Trees.{list_row}
use Rattle.rows.proofs.Writing.{wrote_none}
use Rattle.pieces.specs.declared.refused.Refused.{Refused}
use Rattle.pieces.specs.Refusing.{Left}
use Rattle.pieces.specs.Seen.{ate, is_no_name, Ate, AteName, AteText}
use Rattle.bodies.specs.Outcome.{Did}
use Rattle.bodies.proofs.Expressions.{bind-got, not_same, name-fail, eat-got}
use Rattle.parser.specs.Lists.{DidList, Listed, Listable, Stands, name_row, array_row, Sized, quoted_in}
use Rattle.parser.proofs.Patching.{text_long}

-- names
pub names_comma : {t r q : List ℕ} (x : Name) → AteName x t r → Ate t_comma r q → names_in (pieces gap t) ≡ bind (names_in (pieces gap q)) (λ xs z. got (x ∷ xs) z)
names_comma x a b = ap names_in (a.said ∙ ap (λ l. x ∷ l) b.said) ∙ rw a.ok

pub names-semi : {t r q : List ℕ} (x : Name) → AteName x t r → Ate t_semi r q → names_in (pieces gap t) ≡ got (x ∷ []) (pieces gap q)
names-semi x a b = ap names_in (a.said ∙ ap (λ l. x ∷ l) b.said) ∙ rw a.ok

pick_same : (b : Bool) → pick {A = Res (List Name)} b fail fail ≡ fail
pick_same true = refl
pick_same false = refl

names-rest : (x : Name) (s : List Name) → ate t_semi s ≡ none → ate t_comma s ≡ none → names_in (x ∷ s) ≡ fail
names-rest x [] a b = refl
names-rest x (w ∷ s) a b = let e = not_same w t_comma s (same w t_comma) refl b in let f = not_same w t_semi s (same w t_semi) refl a in rw (e, f) (pick_same (is_name x))

pub names-stop : {t r : List ℕ} (x : Name) → AteName x t r → ate t_semi (pieces gap r) ≡ none → ate t_comma (pieces gap r) ≡ none → names_in (pieces gap t) ≡ fail
names-stop {t} {r} x a e f = ap names_in a.said ∙ names-rest x (pieces gap r) e f

pub names-no : (s : List Name) → is_no_name s ≡ true → names_in s ≡ fail
names-no [] e = refl
names-no (x ∷ []) e = refl
names-no (x ∷ w ∷ s) e = go (is_name x) e
  where
    go : (b : Bool) → not b ≡ true → pick b (pick (same w t_comma) (bind (names_in s) (λ xs r. got (x ∷ xs) r)) (pick (same w t_semi) (got (x ∷ []) s) fail)) fail ≡ fail
    go true f = let y : ◌≡◌ {A = ℕ} 0 1 = cc in absurd (omega arith)
    go false f = refl

name-long : (l : Bool) (x : Name) → length (name_row l x) ≤ length x + 4
name-long true x = omega arith
name-long false x = omega arith

pub name_listable : {t r : List ℕ} (l : Bool) (x : Name) → AteName x t r → Listable 59 names_in (name_row l) x t r
name_listable l x a = record {
  last = λ q b. names-semi x a b;
  more = λ q b. names_comma x a b;
  stop = names-stop x a;
  less = let i = a.less in let j = a.some in omega arith;
  room = let n = name-long l x in let i = a.less in let j = a.some in omega arith;
}

pub names_read : (l : Bool) (t : List ℕ) (res : Result (Bor (List ℕ) × Bor (List ℕ)) Refused) → MatchResult res (λ p. AteName p.0.now t p.1.now) (λ e. (is_no_name (pieces gap t) ≡ true) × Left t e.left) → MatchResult res (λ p. Listable 59 names_in (name_row l) p.0.now t p.1.now × (length p.0.now ≤ 32)) (λ _. names_in (pieces gap t) ≡ fail)
names_read l t (Ok p) a = (name_listable l p.0.now a, a.short)
names_read l t (Err e) a = names-no (pieces gap t) a.0

-- variables
vars-rest : (s : List Name) → ate k_var s ≡ none → vars_in s ≡ got [] s
vars-rest [] e = refl
vars-rest (w ∷ s) e = ap (λ c. pick c (names_in s) (got [] (w ∷ s))) (not_same w k_var s (same w k_var) refl e)

pub vars-none : (t : List ℕ) (o : Row) → ate k_var (pieces gap t) ≡ none → DidList 1 (vars_in (pieces gap t)) (name_row true) t t 0 o o
vars-none t o e = record { did = record { tree = []; is = vars-rest (pieces gap t) e; wrote = wrote_none o; within = omega arith; on = omega arith }; num = refl; few = omega arith }

vars-is : {t r : List ℕ} → Ate k_var t r → vars_in (pieces gap t) ≡ names_in (pieces gap r)
vars-is a = ap vars_in a.said

pub vars-some : {t r : List ℕ} (o p : Row) (res : Result (ℕ × Bor (List ℕ)) Refused) → Ate k_var t r → Listed 0 (names_in (pieces gap r)) (name_row true) r o p res → Listed 1 (vars_in (pieces gap t)) (name_row true) t o p res
vars-some o p (Ok x) a d =
    let l = a.less in let u = d.did.within in let v = d.did.on in
    record { did = record { tree = d.did.tree; is = vars-is a ∙ d.did.is; wrote = d.did.wrote; within = omega arith; on = omega arith }; num = d.num; few = d.few }
vars-some o p (Err y) a d = vars-is a ∙ d

pub size-got : {C : Type 0} {t r : List ℕ} (n : ℕ) (k : ℕ → List Name → Res C) → Sized n t r → size (pieces gap t) k ≡ k n (pieces gap r)
size-got n k s = rw (s.said, s.is)

pub arr-no-name : (b : Bool) (s : List Name) → is_no_name s ≡ true → arr b s ≡ fail
arr-no-name b s e = name-fail s _ e

-- a text for values
pub text_did : {t r q : List ℕ} {o p : Row} (w : List ℕ) → length t ≤ 32768 → AteText w t r → Ate t_semi r q → Wrote o p (list_row num_row w) → DidList 0 (quoted_in (pieces gap t)) num_row t q (length w) o p
text_did w h a b e =
    let i = a.less in let j = b.less in let l = e.long in let u = text_long w in
    record { did = record { tree = w; is = ap quoted_in a.said ∙ eat-got t_semi _ b; wrote = e; within = omega arith; on = omega arith }; num = refl; few = omega arith }

-- arrays
abbrev pub arrs : List Name → Res (List Arr)
arrs = again arrs_step

pub arrs-wide : {t r : List ℕ} → Ate k_array t r → arrs (pieces gap t) ≡ arrs_as arrs true (pieces gap r)
arrs-wide {t} a = arrs-is (pieces gap t) ∙ ap (arrs_step arrs) a.said

pub arrs_byte : {t r : List ℕ} → Ate k_bytes t r → arrs (pieces gap t) ≡ arrs_as arrs false (pieces gap r)
arrs_byte {t} a = arrs-is (pieces gap t) ∙ ap (arrs_step arrs) a.said

arrs-rest : (s : List Name) → ate k_array s ≡ none → ate k_bytes s ≡ none → arrs_step arrs s ≡ got [] s
arrs-rest [] a b = refl
arrs-rest (w ∷ s) a b = let e = not_same w k_array s (same w k_array) refl a in let f = not_same w k_bytes s (same w k_bytes) refl b in rw (e, f)

pub arrs-end : (t : List ℕ) → ate k_array (pieces gap t) ≡ none → ate k_bytes (pieces gap t) ≡ none → arrs (pieces gap t) ≡ got [] (pieces gap t)
arrs-end t a b = arrs-is (pieces gap t) ∙ arrs-rest (pieces gap t) a b

pub arr-stands : {t r q : List ℕ} {o p : Row} (w : Name) (b : Bool) → Ate w t r → arrs (pieces gap t) ≡ arrs_as arrs b (pieces gap r) → Did 0 (arr b (pieces gap r)) array_row r q o p → Stands arrs array_row t q o p
arr-stands w b a e d = let u = d.within in let l = a.less in let n = d.on in record { tree = d.tree; is = e ∙ bind-got _ d.tree _ d.is; wrote = d.wrote; within = omega arith; on = omega arith }
