-- The promise of the middle language.
use Rattle.std.specs.Prelude.{◌≡◌, ℕ, true, ◌⊎◌, List, ◌≢◌}
use Rattle.std.proofs.Math.Option.{some}
use Rattle.language.specs.Syntax.{Prog}
use Rattle.language.specs.Checks.{ok}
use Rattle.language.specs.Meaning.{State, val, trap, word, means}
use Rattle.steps.specs.Steps.{MProg, MSt, m_goes, m_ends, m_traps, m_stuck, m_after, m_begin, m_shown}
use Rattle.steps.specs.Generate.{gen_prog}
use Rattle.language.specs.Observe.{Front, state_of, outs_of, IsSpent}

-- the same as in the promise for an image, one layer above
pub record MidRight (p : Prog) (P : MProg) (ins : List ℕ) : Type 0 where
  pub never_stuck : (k : ℕ) → m_after P k (m_begin P ins) ≢ m_stuck
  pub shows : (k : ℕ) → (n : ℕ) × Front (m_shown (m_after P k (m_begin P ins))) (outs_of (means p ins n))
  pub follows : (n : ℕ) → (k : ℕ) × Front (outs_of (means p ins n)) (m_shown (m_after P k (m_begin P ins)))
  pub ends : (k x : ℕ) (z : MSt) → m_after P k (m_begin P ins) ≡ m_ends x z
      → (n : ℕ) × (s : State) × (means p ins n ≡ val (word x) s) × (z.outs ≡ s.outs) × (z.ins ≡ s.ins)
  pub traps : (k c : ℕ) (z : MSt) → m_after P k (m_begin P ins) ≡ m_traps c z
      → (n : ℕ) × (s : State) × (means p ins n ≡ trap c s) × (z.outs ≡ s.outs) × (z.ins ≡ s.ins)
  pub comes_to : (n : ℕ) → (IsSpent (means p ins n) → ⊥)
      → (k x : ℕ) × (z : MSt) × ((m_after P k (m_begin P ins) ≡ m_ends x z) ⊎ (m_after P k (m_begin P ins) ≡ m_traps x z))
  -- every mark of the steps is one of the meaning
  pub marks : (k : ℕ) (z : MSt) → m_after P k (m_begin P ins) ≡ m_goes z
      → (n : ℕ) × (s : State) × (state_of (means p ins n) ≡ some s) × Front z.calls s.calls

abbrev pub MidAlwaysRight : Type 0
MidAlwaysRight = (p : Prog) → ok p ≡ true → (ins : List ℕ) → MidRight p (gen_prog p) ins
