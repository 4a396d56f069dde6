-- If the words to read are below 2^32, so is every word of the state that a run comes to, and what main gives: read off from what Safe carries.
use mathlib.Core.Path.{◌≡◌, refl, subst}
use mathlib.Core.Bool.{Bool, true, false}
use mathlib.Core.List.{List, [], ◌∷◌}
use mathlib.Core.Option.{some}
use Prim.Native.Nat.{ℕ, ◌<◌}
use Rattle.language.specs.Syntax.{pick, k_word, Prog}
use Rattle.language.specs.Meaning.{Cells, State, Value, word, array, Result}
use Rattle.language.specs.Laws.{Each, ValueWord, WordsSmall, WordsStay}
use Rattle.language.specs.Words.{all}
use Rattle.language.specs.Observe.{state_of}
use Rattle.language.proofs.WellTyped.{Cell, CellsOk, ValueSmall, AllSmall, each_map, Ctx, some_is}
use Rattle.language.proofs.Safe.{Meets, m_val, m_vals, m_fine, m_broke, m_next, m_gives, m_trap, m_spent, kind_post, the_val, word_case, outside, meant_means}

cells-small : (k : Cells) → CellsOk true k → Each (λ n. n < pick k.wide all 256) k.cells
cells-small k h = go k.wide k.cells h
  where
    go : (w : Bool) (ns : List ℕ) → Each (Cell true w) ns → Each (λ n. n < pick w all 256) ns
    go w [] h = tt
    go true (n ∷ ns) h = (h.0, go true ns h.1)
    go false (n ∷ ns) h = (h.0, go false ns h.1)

value-word : (v : Value) → ValueSmall true v → ValueWord v
value-word (word n) h = h
value-word (array a) h = tt

words_small : (s : State) → AllSmall true s → WordsSmall s
words_small s h = record {
  words = h.words;
  cells = each_map cells-small s.arrays h.cells;
  vars = each_map (λ b. value-word b.val) s.vars h.vars;
  ins = h.ins;
  outs = h.outs;
}

state_small :
    (p : Prog) (c : Ctx) {r : Result} (s : State) → Meets c.sh.strict (kind_post p c k_word) r → state_of r ≡ some s → AllSmall c.sh.strict s
state_small p c s (m_val x) e = subst (AllSmall c.sh.strict) (some_is e) x.1.smalls
state_small p c s (m_vals x) e = absurd x
state_small p c s (m_fine x) e = absurd x
state_small p c s (m_broke x) e = absurd x
state_small p c s (m_next x) e = absurd x
state_small p c s (m_gives x) e = absurd x
state_small p c s (m_trap x) e = subst (AllSmall c.sh.strict) (some_is e) x
state_small p c s (m_spent x) e = subst (AllSmall c.sh.strict) (some_is e) x

pub words_stay_holds : WordsStay
words_stay_holds p ins n t i = record {
  holds = λ s e. words_small s (state_small p (outside p true) s (meant_means p true ins n t i) e);
  given = λ v s e. word_case (outside p true).sh (λ u. (x : ℕ) × (u ≡ word x) × (x < all)) v (the_val (subst (Meets _ _) e (meant_means p true ins n t i))).0 (λ x h. (x, refl, h));
}
