-- Operators between two, as code sees them, against the model parser's chain.
use Rattle.std.proofs.Common.{◌≡◌, ℕ, ◌≤◌, ◌⊎◌, List, ◌∷◌, sym, refl, ap, ◌∙◌, subst, inl, inr, add-one, arith, lit≤}
use mathlib.Core.Option.{some, none}
use Rattle.pieces.specs.declared.seen.Look.{Look}
use Rattle.pieces.specs.declared.seen.Look.TheVariants.{Num, Named, Tie, Minus, Before, OpenRound, ShutRound, OpenSquare, Comma, Len, Call, In, Other, End}
use Rattle.pieces.specs.declared.seen.Op.{Op}
use Rattle.pieces.specs.declared.seen.Op.TheVariants.{Or, And, Two}
use Rattle.pieces.specs.declared.seen.Binary.{Binary}
use Rattle.pieces.specs.declared.seen.Binary.TheVariants.{Add, Subtract, Multiply, Divide, Remainder, Equal, Unequal, Less, LessOrEqual, Greater, GreaterOrEqual, BitAnd, BitOr, BitXor, ShiftLeft, ShiftRight}
use Rattle.grammar.specs.Text.{pieces, gap}
use Rattle.grammar.specs.Parse as parse
use Rattle.grammar.specs.Parse.{tie, join, got, bind, climb, chain_by, reader}
use Rattle.pieces.specs.Seen.{binary_level, level_of, op_of, piece_of, First, Nothing, Tied, Untied}
use Rattle.grammar.proofs.ExprSound.{Ends}
use Rattle.grammar.proofs.ExprFuel.{reader-fixed}
use Rattle.grammar.proofs.ExprComplete.{chain_ends, chain_by_ties}

binary_low : (o : Binary) → binary_level o ≤ 7
binary_low Add = lit≤ tt
binary_low Subtract = lit≤ tt
binary_low Multiply = lit≤ tt
binary_low Divide = lit≤ tt
binary_low Remainder = lit≤ tt
binary_low Equal = lit≤ tt
binary_low Unequal = lit≤ tt
binary_low Less = lit≤ tt
binary_low LessOrEqual = lit≤ tt
binary_low Greater = lit≤ tt
binary_low GreaterOrEqual = lit≤ tt
binary_low BitAnd = lit≤ tt
binary_low BitOr = lit≤ tt
binary_low BitXor = lit≤ tt
binary_low ShiftLeft = lit≤ tt
binary_low ShiftRight = lit≤ tt

low : (o : Op) → level_of o ≤ 7
low Or = lit≤ tt
low And = lit≤ tt
low (Two o) = binary_low o

pub tied : {t r : List ℕ} (o : Op) (k : Look) → First k t r → parse.op_of (piece_of k) ≡ some (tie (level_of o) (op_of o)) → Tied o t r
tied {t} {r} o k f e = record {
  taken = λ n a g. ap (reader.chain n a) f.said ∙ reader-fixed.chain_is n a _ ∙ chain_by_ties reader reader-fixed (tie (level_of o) (op_of o)) n a (f.word ∷ pieces gap r) (pieces gap r) g _ (ap parse.op_of f.is ∙ e) ∙ ap (λ m. bind (climb reader m (pieces gap r)) (λ b q. reader.chain n (join (op_of o) a b) q)) (sym (add-one (level_of o)));
  left = λ n a g. chain_ends reader reader-fixed n a (pieces gap t) (subst (Ends n) (sym f.said) (λ u v. let w = sym (ap parse.op_of f.is ∙ e) ∙ v in let z : tie (level_of o) (op_of o) ≡ u = cc in let y : level_of o ≡ u.lvl = ap (λ (x : parse.Tie). x.lvl) z in omega arith));
  less = let a = f.less in let b = f.some in omega arith;
  low = low o;
}

pub untied : {t r : List ℕ} (k : Look) → First k t r ⊎ Nothing t r → parse.op_of (piece_of k) ≡ none → Untied t
untied {t} {r} k (inl f) e n a = ap (reader.chain n a) f.said ∙ reader-fixed.chain_is n a _ ∙ ap (chain_by reader n a (f.word ∷ pieces gap r) (pieces gap r)) (ap parse.op_of f.is ∙ e) ∙ ap (got a) (sym f.said)
untied k (inr f) e n a = ap (reader.chain n a) f.said ∙ reader-fixed.chain_is n a _ ∙ ap (got a) (sym f.said)

pub no_op : (k : Look) → ((o : Op) → k ≡ Tie o → ⊥) → (k ≡ Minus → ⊥) → parse.op_of (piece_of k) ≡ none
no_op (Num n) a b = refl
no_op (Named w) a b = refl
no_op (Tie o) a b = absurd (a o refl)
no_op Minus a b = absurd (b refl)
no_op (Before o) a b = refl
no_op OpenRound a b = refl
no_op ShutRound a b = refl
no_op OpenSquare a b = refl
no_op Comma a b = refl
no_op Len a b = refl
no_op Call a b = refl
no_op In a b = refl
no_op Other a b = refl
no_op End a b = refl
