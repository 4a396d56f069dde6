-- Laws of writing instructions.
use Rattle.std.proofs.Common.{◌≡◌, ℕ, suc, ◌+◌, List, [], ◌∷◌, ◌++◌, length, take, sym, refl, ap, ◌∙◌, subst, append_assoc, append-nil, arith, length-append}
use Rattle.processor.specs.declared.instr.Instr.{Instr}
use Rattle.processor.specs.Instr.{encode}
use Rattle.lower.specs.Code.{LI, to_real}
use Rattle.lower.specs.Lower.{words_of}
use Rattle.assembler.specs.declared.code.Code.{Code}
use Rattle.assembler.specs.Emission.{reals, encoded, Put}

pub encoded-length : (is : List Instr) → length (encoded is) ≡ length is
encoded-length [] = refl
encoded-length (i ∷ is) = ap suc (encoded-length is)

pub encoded-append : (is js : List Instr) → encoded (is ++ js) ≡ encoded is ++ encoded js
encoded-append [] js = refl
encoded-append (i ∷ is) js = ap {B = List ℕ} (λ l. encode i ∷ l) (encoded-append is js)

pub reals-length : (p : ℕ) (xs : List LI) → length (reals p xs) ≡ length xs
reals-length p [] = refl
reals-length p (x ∷ xs) = ap suc (reals-length (suc p) xs)

pub reals-append : (p : ℕ) (xs ys : List LI) → reals p (xs ++ ys) ≡ reals p xs ++ reals (p + length xs) ys
reals-append p [] ys = let z : p ≡ p + 0 = omega arith in ap (λ n. reals n ys) z
reals-append p (x ∷ xs) ys =
    let z : suc p + length xs ≡ p + suc (length xs) = omega arith in
    ap {B = List Instr} (λ l. to_real p x ∷ l) (reals-append (suc p) xs ys ∙ ap (λ n. reals (suc p) xs ++ reals n ys) z)

pub reals-words : (p : ℕ) (xs : List LI) → encoded (reals p xs) ≡ words_of p xs
reals-words p [] = refl
reals-words p (x ∷ xs) = ap {B = List ℕ} (λ l. encode (to_real p x) ∷ l) (reals-words (suc p) xs)

pub put-none : (o : Code) → Put o o []
put-none o = record { grown = λ h. record { is = sym (append-nil (take o.here o.words.now)); long = omega arith }; kept = refl; same = refl }

pub put_as : {o p : Code} {is js : List Instr} → is ≡ js → Put o p is → Put o p js
put_as {o} {p} {is} {js} e f = subst (λ l. Put o p l) e f

-- one behind the other; what is written second may depend on where it stands
pub put_then : {o p q : Code} (is : List Instr) {ks : List Instr} (js : List Instr) → Put o p is → Put p q ks → (p.here ≡ o.here + length is → ks ≡ js) → Put o q (is ++ js)
put_then {o} {p} {q} is {ks} js f g e = record {
  grown = λ h.
      let a = f.grown (omega (arith, h, length-append is js)) in
      let here : p.here ≡ o.here + length is = omega (arith, a.long, encoded-length is) in
      let g2 : Put p q js = put_as (e here) g in
      let b = g2.grown (omega (arith, h, length-append is js, here, f.kept)) in
      record {
        is = b.is ∙ (ap (λ l. l ++ encoded js) a.is ∙ (append_assoc (take o.here o.words.now) (encoded is) (encoded js) ∙ ap (λ l. take o.here o.words.now ++ l) (sym (encoded-append is js))));
        long = omega (arith, a.long, b.long, encoded-length is, encoded-length js, encoded-length (is ++ js), length-append is js);
      };
  kept = g.kept ∙ f.kept;
  same = g.same ∙ f.same;
}

pub put-more : {o p q : Code} {is js : List Instr} → Put o p is → Put p q js → Put o q (is ++ js)
put-more {o} {p} {q} {is} {js} f g = put_then is js f g (λ e. refl)

-- the same instructions otherwise written
pub put_as1 : {o p : Code} {i j : Instr} → i ≡ j → Put o p (i ∷ []) → Put o p (j ∷ [])
put_as1 {o} {p} {i} {j} e f = put_as (ap (λ x. x ∷ []) e) f
