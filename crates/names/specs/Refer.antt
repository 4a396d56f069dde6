-- What a name stands for where a word or an array is wanted, as the generator numbers words and arrays; and that this is all that the generator
-- asks of such a name.
use Rattle.std.specs.Prelude.{◌≡◌, ℕ, Bool, true}
use Rattle.std.proofs.Math.Option.{Option, some, none}
use Rattle.language.specs.Syntax.{opt, Name, var, Item, i_word, i_arr, i_data, i_table, i_fn, i_use}
use Rattle.language.specs.Meaning.{Is, is_word, is_arr, is_table, is_fn}
use Rattle.steps.specs.Steps.{Opnd, o_top, o_own, Step, s_num, s_copy, s_getw, s_setw}
use Rattle.steps.specs.Generate.{Ref, r_word, r_arr, Scope, find, gen_arr, wide_of, own_at, gen_var, gen_set}
use Rattle.names.specs.declared.found.Reference as found
use Rattle.names.specs.declared.found.Reference.TheVariants.{OwnWord, OwnArray, TopWord, TopArray, Other}

abbrev pub of_ref : Ref → found.Reference
of_ref (r_word i) = OwnWord i
of_ref (r_arr i w) = OwnArray i w

abbrev pub of_is : Is → found.Reference
of_is (is_word i) = TopWord i
of_is (is_arr a w) = TopArray a w
of_is (is_table fs) = Other
of_is (is_fn g) = Other

-- an item, behind w words and a arrays
abbrev pub item_meant : Item → ℕ → ℕ → found.Reference
item_meant (i_word x) w a = TopWord w
item_meant (i_arr r) w a = TopArray a r.wide
item_meant (i_data d x ns) w a = TopArray a d
item_meant (i_table x fs) w a = Other
item_meant (i_fn g) w a = Other
item_meant (i_use y xs) w a = Other

abbrev pub meant : Scope → Name → found.Reference
meant Γ x = opt (find Γ.slots x 0 0) (opt (Γ.top x) Other (λ t. of_is t.is)) of_ref

-- an array as an operand, whether it is of words, an own word's place, a word read and set
abbrev pub operand : found.Reference → Option Opnd
operand (OwnWord i) = none
operand (OwnArray i w) = some (o_own i)
operand (TopWord i) = none
operand (TopArray i w) = some (o_top i)
operand Other = none

abbrev pub wide : found.Reference → Bool
wide (OwnWord i) = true
wide (OwnArray i w) = w
wide (TopWord i) = true
wide (TopArray i w) = w
wide Other = true

abbrev pub own_place : found.Reference → Option ℕ
own_place (OwnWord i) = some i
own_place (OwnArray i w) = none
own_place (TopWord i) = none
own_place (TopArray i w) = none
own_place Other = none

abbrev pub reads : found.Reference → ℕ → Step
reads (OwnWord i) d = s_copy d i
reads (OwnArray i w) d = s_num d 0
reads (TopWord i) d = s_getw d i
reads (TopArray i w) d = s_num d 0
reads Other d = s_num d 0

abbrev pub sets : found.Reference → ℕ → Step
sets (OwnWord i) a = s_copy i a
sets (OwnArray i w) a = s_num a 0
sets (TopWord i) a = s_setw i a
sets (TopArray i w) a = s_num a 0
sets Other a = s_num a 0

pub record Generated (Γ : Scope) (x : Name) : Type 0 where
  pub array : gen_arr Γ x ≡ operand (meant Γ x)
  pub width : wide_of Γ x ≡ wide (meant Γ x)
  pub place : own_at Γ (var x) ≡ own_place (meant Γ x)
  pub read : (d : ℕ) → gen_var Γ x d ≡ reads (meant Γ x) d
  pub set : (a : ℕ) → gen_set Γ x a ≡ sets (meant Γ x) a

abbrev pub NamesGenerated : Type 0
NamesGenerated = (Γ : Scope) (x : Name) → Generated Γ x
