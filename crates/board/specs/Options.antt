-- What each option sets, by its name and its value.
use Rattle.std.specs.Prelude.{◌≡◌, ℕ, List, Some, None, Result, Ok, Err, codes}
use Rattle.std.specs.Option.{ok_or}
use Rattle.std.specs.Str.{bytes_eq}
use Rattle.language.specs.Syntax.{pick}
use Rattle.board.specs.Numbers.{number}
use Rattle.board.specs.declared.filling.Pattern.{Pattern}
use Rattle.board.specs.declared.filling.Pattern.TheVariants.{Ones, Random}
use Rattle.board.specs.declared.options.Settings.{Settings}
use Rattle.board.specs.declared.options.SettingError.{SettingError}
use Rattle.board.specs.declared.options.SettingError.TheVariants.{NoOption, NoNumber}

-- f of the value, if there is one
abbrev pub with_ok : {A B E : Type 0} → (A → B) → Result A E → Result B E
with_ok f (Ok x) = Ok (f x)
with_ok f (Err e) = Err e

-- the values if no option is given
abbrev pub Defaults : Settings → Type 0
Defaults s = s ≡ record { at = 0; top = None; memory = 1048576; fill = Random 0; steps = 1000000000 }

abbrev pub word : List ℕ → Result ℕ SettingError
word v = ok_or (number v) NoNumber

-- ones, or the number of a seed
abbrev pub fill_of : List ℕ → Result Pattern SettingError
fill_of v = pick (bytes_eq v (codes "ones")) (Ok Ones) (with_ok Random (word v))

abbrev pub set : Settings → List ℕ → List ℕ → Result Settings SettingError
set s name v = pick (bytes_eq name (codes "--at")) (with_ok (λ n. record s { at = n }) (word v))
    (pick (bytes_eq name (codes "--top")) (with_ok (λ n. record s { top = Some n }) (word v))
    (pick (bytes_eq name (codes "--memory")) (with_ok (λ n. record s { memory = n }) (word v))
    (pick (bytes_eq name (codes "--fill")) (with_ok (λ f. record s { fill = f }) (fill_of v))
    (pick (bytes_eq name (codes "--steps")) (with_ok (λ n. record s { steps = n }) (word v)) (Err NoOption)))))
