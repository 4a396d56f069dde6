-- Lent words that are written from their start on: what was written, and how it grows.
use Rattle.std.specs.Prelude.{◌≡◌, ℕ, ◌+◌, ◌≤◌, List, ◌++◌, length, take}
use Rattle.language.specs.Syntax.{put}
use Rattle.rows.specs.declared.row.Row.{Row}

abbrev pub written : Row → List ℕ
written o = take o.len o.words.now

-- o has become p, by these words behind what was written
pub record Wrote (o p : Row) (ws : List ℕ) : Type 0 where
  pub grown : written p ≡ written o ++ ws
  pub long : p.len ≡ o.len + length ws
  pub kept : length p.words.now ≡ length o.words.now
  -- it is still the same slice that is lent
  pub same : p.words.ghost_name ≡ o.words.ghost_name

-- o has become p, by another word in a place that was written
pub record Patched (o p : Row) (at v : ℕ) : Type 0 where
  pub changed : written p ≡ put (written o) at v
  pub long : p.len ≡ o.len
  pub kept : length p.words.now ≡ length o.words.now
  -- it is still the same slice that is lent
  pub same : p.words.ghost_name ≡ o.words.ghost_name

-- o has become p, by these words behind what was written if there is room for them
pub record Pushed (o p : Row) (ws : List ℕ) : Type 0 where
  pub wrote : o.len + length ws ≤ length o.words.now → Wrote o p ws
  pub kept : length p.words.now ≡ length o.words.now
  pub same : p.words.ghost_name ≡ o.words.ghost_name
