-- What the layers answer is what the definition `built` gives, which keeps the promise of `build`.
use Rattle.std.proofs.Common.{◌≡◌, ℕ, Option, Some, None, Result, Ok, Err, ◌+◌, ◌*◌, ◌<◌, ◌≤◌, Bool, List, ◌++◌, length, drop, sym, ap, ◌∙◌, subst, arith, le-ltb, lt-ltb, le-leb}
use mathlib.Core.Option.{some, none}
use borrow.Author.Tests.{lt-leb}
use Rattle.language.specs.Syntax.{pick, Prog, stage}
use Rattle.grammar.specs.Reading.{reading}
use Rattle.image.specs.Image.{row}
use Rattle.lower.specs.declared.Unbuilt.{Unbuilt}
use Rattle.lower.specs.declared.Unbuilt.TheVariants.{ImageFull, NotYet, NoProgram, Few}
use Rattle.std.specs.Option.{ok_or}
use Rattle.front.specs.declared.Unreadable.{Unreadable}
use Rattle.front.specs.declared.Unreadable.TheVariants as unread
use Rattle.front.specs.Answers.{ReadSays}
use Rattle.assembler.specs.Assembled.{Assembled}
use Rattle.front.specs.Refusals.{unbuilt_of}
use Rattle.lower.specs.Lower.{compile}
use Rattle.lower.specs.Promise.{BuiltPost}
use Rattle.lower.specs.Build.{Outcome, refused, written, of_text, built}
use Rattle.lower.proofs.Builds.{builds_right}

by-built : {t o o' : List ℕ} {w : ℕ} {r : Result ℕ Unbuilt} → built t w o ≡ record { answer = r; image = o' } → BuiltPost t w o o' r
by-built {t} {o} {o'} {w} {r} e = subst (λ (x : Outcome). BuiltPost t w o x.image x.answer) e (builds_right t w o)

pub few_promised : {t o : List ℕ} {w : ℕ} → w < 65536 + 16 * length t → BuiltPost t w o o (Err Few)
few_promised {t} {o} {w} h = by-built (ap (λ (b : Bool). pick b (refused Few o) (of_text o (reading t))) (lt-ltb w (65536 + 16 * length t) h))

enough : (t o : List ℕ) (w : ℕ) → 65536 + 16 * length t ≤ w → built t w o ≡ of_text o (reading t)
enough t o w h = ap (λ (b : Bool). pick b (refused Few o) (of_text o (reading t))) (le-ltb w (65536 + 16 * length t) h)

pub none_promised : {t o : List ℕ} {w : ℕ} → 65536 + 16 * length t ≤ w → reading t ≡ none → BuiltPost t w o o (Err NoProgram)
none_promised {t} {o} {w} h e = by-built (enough t o w h ∙ ap (of_text o) e)

pub later_promised : {t o : List ℕ} {w s : ℕ} (p : Prog) → 65536 + 16 * length t ≤ w → reading t ≡ some p → s ≡ stage p → 0 < s → BuiltPost t w o o (Err (NotYet s))
later_promised {t} {o} {w} {s} p h e k l = by-built (enough t o w h ∙ ap (of_text o) e ∙ ap (λ (b : Bool). pick b (written (row (compile p)) o) (refused (NotYet (stage p)) o)) (lt-leb (stage p) 0 (omega (arith, k, l))) ∙ ap (λ n. refused (NotYet n) o) (sym k))

built-core : (t o : List ℕ) (w : ℕ) (p : Prog) → 65536 + 16 * length t ≤ w → reading t ≡ some p → stage p ≤ 0 → built t w o ≡ written (row (compile p)) o
built-core t o w p h e k = enough t o w h ∙ ap (of_text o) e ∙ ap (λ (b : Bool). pick b (written (row (compile p)) o) (refused (NotYet (stage p)) o)) (le-leb (stage p) 0 k)

-- the row stands for any: as itself it would be computed at each step
full : (R o : List ℕ) → length o < length R → written R o ≡ refused ImageFull o
full R o h = ap (λ (b : Bool). pick b (refused ImageFull o) (record { answer = Ok (length R); image = R ++ drop (length R) o })) (lt-ltb (length o) (length R) h)

done : (R o o' : List ℕ) (n : ℕ) → n ≡ length R → length R ≤ length o → o' ≡ R ++ drop n o → written R o ≡ record { answer = Ok n; image = o' }
done R o o' n e h i =
    ap (λ (b : Bool). pick b (refused ImageFull o) (record { answer = Ok (length R); image = R ++ drop (length R) o })) (le-ltb (length o) (length R) h)
    ∙ ap (λ (k : ℕ). record { answer = Ok k; image = R ++ drop k o }) (sym e)
    ∙ ap (λ (x : List ℕ). record { answer = Ok n; image = x }) (sym i)

pub full_promised : {t o o' : List ℕ} {w : ℕ} (p : Prog) → 65536 + 16 * length t ≤ w → reading t ≡ some p → stage p ≤ 0 → length o < length (row (compile p)) → o' ≡ o → BuiltPost t w o o' (Err ImageFull)
full_promised {t} {o} {o'} {w} p h e k l i = by-built (built-core t o w p h e k ∙ full (row (compile p)) o l ∙ ap (refused ImageFull) (sym i))

pub done_promised : {t o o' : List ℕ} {w n : ℕ} (p : Prog) → 65536 + 16 * length t ≤ w → reading t ≡ some p → stage p ≤ 0 → n ≡ length (row (compile p)) → length (row (compile p)) ≤ length o → o' ≡ row (compile p) ++ drop n o → BuiltPost t w o o' (Ok n)
done_promised {t} {o} {o'} {w} {n} p h e k l m i = by-built (built-core t o w p h e k ∙ done (row (compile p)) o o' n l m i)

pub refused_promised : {t o : List ℕ} {w : ℕ} (e : Unreadable) → ReadSays t w (Err e) → BuiltPost t w o o (Err (unbuilt_of e))
refused_promised unread.Few h = few_promised h
refused_promised unread.NoProgram h = none_promised h.0 h.1

pub generated_promised : {t o o' : List ℕ} {w : ℕ} (r : Option ℕ) (p : Prog) → 65536 + 16 * length t ≤ w → reading t ≡ some p → stage p ≤ 0 → Assembled (row (compile p)) o o' r → BuiltPost t w o o' (ok_or r ImageFull)
generated_promised (Some n) p h e k made = done_promised p h e k made.0 made.1 made.2
generated_promised None p h e k made = full_promised p h e k made.0 made.1
