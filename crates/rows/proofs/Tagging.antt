-- A tag is told by its number.
use Rattle.std.proofs.Common.{◌≡◌, ℕ, ◌<◌, ◌==◌, Result, Ok, Err, sym, refl, ap, ◌∙◌, arith}
use Rattle.std.specs.Result.{result_unwrap_or}
use Rattle.language.specs.Syntax.{pick}
use Rattle.rows.specs.declared.tag.Tag.{Tag}
use Rattle.rows.specs.declared.tag.NoTag.{NoTag}
use Rattle.rows.specs.declared.tag.Tag.TheVariants.{Num, Var, Bin, And, Or, Join, Un, Idx, Len, Call, By, In, Set, Store, Ex, Out, If, Else, Fi, Loop, While, Again, Ret, Break, Next, End, Arg}
use Rattle.rows.specs.NodeTags.{tag_no, Numbers}

with_number : ℕ → Tag
with_number n = pick (n == 0) Num (pick (n == 1) Var (pick (n == 2) Bin (pick (n == 3) And (pick (n == 4) Or (pick (n == 5) Join (pick (n == 6) Un (pick (n == 7) Idx (pick (n == 8) Len (pick (n == 9) Call (pick (n == 10) By (pick (n == 11) In (pick (n == 12) Set (pick (n == 13) Store (pick (n == 14) Ex (pick (n == 15) Out (pick (n == 16) If (pick (n == 17) Else (pick (n == 18) Fi (pick (n == 19) Loop (pick (n == 20) While (pick (n == 21) Again (pick (n == 22) Ret (pick (n == 23) Break (pick (n == 24) Next (pick (n == 25) End (Arg))))))))))))))))))))))))))

known : (tag : Tag) → with_number (tag_no tag) ≡ tag
unfolding with_number
known Num = refl
known Var = refl
known Bin = refl
known And = refl
known Or = refl
known Join = refl
known Un = refl
known Idx = refl
known Len = refl
known Call = refl
known By = refl
known In = refl
known Set = refl
known Store = refl
known Ex = refl
known Out = refl
known If = refl
known Else = refl
known Fi = refl
known Loop = refl
known While = refl
known Again = refl
known Ret = refl
known Break = refl
known Next = refl
known End = refl
known Arg = refl

few : (tag : Tag) → tag_no tag < 27
few Num = omega arith
few Var = omega arith
few Bin = omega arith
few And = omega arith
few Or = omega arith
few Join = omega arith
few Un = omega arith
few Idx = omega arith
few Len = omega arith
few Call = omega arith
few By = omega arith
few In = omega arith
few Set = omega arith
few Store = omega arith
few Ex = omega arith
few Out = omega arith
few If = omega arith
few Else = omega arith
few Fi = omega arith
few Loop = omega arith
few While = omega arith
few Again = omega arith
few Ret = omega arith
few Break = omega arith
few Next = omega arith
few End = omega arith
few Arg = omega arith

pub tag_read : {n : ℕ} (r : Result Tag NoTag) (tag d : Tag) → Numbers n r → n ≡ tag_no tag → result_unwrap_or r d ≡ tag
tag_read {n} (Ok found) tag d is e = sym (known found) ∙ ap with_number (is ∙ e) ∙ known tag
tag_read {n} (Err wrong) tag d is e = let k = few tag in let l = is.1 in absurd (omega arith)

-- no two tags have one number
pub tag_same : (a b : Tag) → tag_no a ≡ tag_no b → a ≡ b
tag_same a b e = sym (known a) ∙ ap with_number e ∙ known b
