-- A text whose program has as many values that wait at once as the bound says: each of 39 calls through a table stands in the last
-- argument of the one before it, behind an operator of every kind.
use mathlib.Core.Path.{◌≡◌, refl}
use mathlib.Core.List.{List, ◌++◌}
use mathlib.Core.Option.{Option, some, none}
use Prim.Native.Nat.{ℕ, zero, suc}
use native.Mathlib.Omega.{arith}
use lib.Chars.{codes}
use Rattle.language.specs.Syntax.{opt, Prog}
use Rattle.grammar.specs.Parse.{look, up_to, reader}
use Rattle.grammar.specs.ParseAll.{up_to_f, again, lead, head_of, parse}
use Rattle.grammar.specs.Reading.{reading}
use Rattle.grammar.specs.Budget.{deepest, DeepAttained}
use Rattle.grammar.proofs.Reading.{reading-sound}

-- n calls one in another
abbrev nest : ℕ → List ℕ
nest zero = codes "1"
nest (suc n) = codes "call t[0](1,1,1,1,1,1,1,1==1|1&1<<1+1*" ++ (nest n ++ codes ")")

abbrev deep_text : List ℕ
deep_text =
    codes "file a;array v[1];fn f(a,b,c,d,e,g,h,i){}table t=f;fn main(){v[0]=1==1|1&1<<1+1*" ++ (nest 39 ++ codes ";}")

read_deep : opt (reading deep_text) 0 deepest ≡ 593
unfolding reading look up_to reader up_to_f again lead head_of parse
read_deep = refl

-- what is read has a program
of_some : (n : ℕ) (o : Option Prog) → opt o 0 deepest ≡ suc n → (p : Prog) × (o ≡ some p) × (deepest p ≡ suc n)
of_some n none e = absurd (let z : ⊥ = omega (arith, e) in z)
of_some n (some p) e = (p, refl, e)

pub deep_is_attained : DeepAttained
deep_is_attained =
    let k = of_some 592 (reading deep_text) read_deep in
    (deep_text, k.0, reading-sound deep_text k.0 k.1, k.2)
