-- A call's body; all forms together.
use Rattle.std.proofs.Common.{◌≡◌, ℕ, zero, suc, ◌+◌, ◌-◌, false, List, [], ◌∷◌, ◌++◌, length, take, sym, refl, ap, ◌∙◌, zero-add, arith, length-append}
use mathlib.Core.Bool.{false≢true}
use Rattle.language.specs.Syntax.{nth, num, var, bin, un, and1, or1, idx, len, call, by_table, input, no, and_then, set1, store1, ex1, out1, if1, while1, ret1, break1, next1, end, seq1, k_word, k_arr, Fn}
use Rattle.language.specs.Meaning.{on_end, back, enter, cost, new_arrs, State, Result, Value, t_call, run}
use Rattle.steps.specs.Steps.{Saved, entry}
use Rattle.steps.specs.Generate.{words_of, size_b}
use Rattle.steps.proofs.Outcome.{Cfg, mk, Out, done, spentd, less, bind}
use Rattle.steps.proofs.Rules.{r_num, r_ret}
use Rattle.steps.proofs.Variables.{upd_same, wides, wides_++, wides-take, wides-length, take-front, nth_left, nums, names_at, shapes-length}
use Rattle.steps.proofs.Match.{Env, Fun, w_b, Pre, Stays, QC, q_call, QS, q_fine, q_broke, q_next, q_gives, Sim, SimE, SimEs, SimS, SimB, Linked, Called}
use Rattle.steps.proofs.Expressions.{sim_num, sim_var, sim_bin, sim_un, sim_and, sim_or, sim_call, sim_table, sim_in, sim_idx, sim_len, sim_no, sim_word_arg, sim_arr_arg}
use Rattle.steps.proofs.Statements.{sim_set, sim_store, sim_ex, sim_out, sim_if, sim_while, sim_head, sim_ret, sim_break, sim_next, sim_end, sim_seq, behind_b, front_b}

module _ (v : Env) (n : ℕ) (ih : Sim v n) (c : Fun) (g : Fn) (vs : List Value) (fr : Saved) (st : List Saved) (s : State) (cm : Called v g c vs s) where
  pub sim_body : Out v.P v.W (QC fr st s) (suc n - suc (w_b g.body)) (mk c.j 0 (entry c.G (nums vs)) (fr ∷ st) (enter g vs s)) (run v.p (suc n) c.file (t_call g vs) s)
  sim_body = bind (λ r. on_end s r) (record { traps = λ c s. refl; spents = λ s. refl }) go (less _ (omega arith) (ih.b c g.body false _ 0 0 0 (entry c.G (nums vs)) (fr ∷ st) (enter g vs s) pre cm.fn.wf (front_b _ _ g.body _ 0 0 0 _ cm.fn.code)))
    where
      wider : c.ws ≡ wides s.arrays ++ wides (new_arrs g.arrs)
      wider = cm.ws ∙ wides_++ s.arrays (new_arrs g.arrs)

      pre : Pre v c (words_of c.Γ.slots) (entry c.G (nums vs)) (enter g vs s)
      pre = record { here = cm.fn.here; room = omega arith; vars = rw cm.fn.slots (names_at c.j.arrs c.ws (entry c.G (nums vs)) g.params vs g.vars g.arrs 0 0 (length s.arrays) (wides s.arrays) wider (wides-length s.arrays) cm.fits (λ h. rw (zero-add h, cm.fn.vars)) (λ h. rw (zero-add h, cm.arrs, cm.fn.own))); words = cm.words; arrays = sym cm.ws; base = λ a w e. ap (λ l. nth l a) wider ∙ nth_left (wides s.arrays) (wides (new_arrs g.arrs)) a w (cm.base a w e) }

      gone : (s1 : State) → s1.held ≡ s.held + cost g → s1.held - c.G.cost ≡ s.held
      gone s1 e = omega (arith, cm.fn.costs)

      fewer : (s1 : State) → wides s1.arrays ≡ c.ws → length s1.arrays - length c.G.own ≡ length s.arrays
      fewer s1 a =
          let k : length s1.arrays ≡ length (s.arrays ++ new_arrs g.arrs) = sym (wides-length s1.arrays) ∙ (ap length (a ∙ cm.ws) ∙ wides-length (s.arrays ++ new_arrs g.arrs)) in
          let o : length c.G.own ≡ length (new_arrs g.arrs) = ap length cm.fn.own ∙ shapes-length g.arrs in
          omega (arith, length-append s.arrays (new_arrs g.arrs), k, o)

      stays : (s1 : State) → length s1.words ≡ v.P.words → wides s1.arrays ≡ c.ws → Stays s (back s s1)
      stays s1 e a = record { vars = refl; held = refl; words = e ∙ sym cm.words; arrays = wides-take (length s.arrays) s1.arrays ∙ (ap (take (length s.arrays)) (a ∙ wider) ∙ (ap (λ k. take k (wides s.arrays ++ wides (new_arrs g.arrs))) (sym (wides-length s.arrays)) ∙ take-front (wides s.arrays) (wides (new_arrs g.arrs)))) }

      go : (m1 : Cfg) (r1 : Result) → QS v c false (words_of c.Γ.slots) (0 + size_b c.Γ g.body) 0 0 (fr ∷ st) (enter g vs s) m1 r1 → Out v.P v.W (QC fr st s) (suc n - suc (w_b g.body)) m1 (on_end s r1)
      go m1 r1 (q_fine s1 ps1 p1 y) = let code = behind_b _ _ g.body _ 0 0 0 _ cm.fn.code in r_num cm.fn.here code.0 (r_ret cm.fn.here s code.1.0 (upd_same ps1 _ 0) (gone s1 y) (fewer s1 p1.arrays) (done (q_call 0 (back s s1) (stays s1 p1.words p1.arrays))))
      go m1 r1 (q_broke s1 ps1 a p1 y) = absurd (false≢true a)
      go m1 r1 (q_next s1 ps1 a p1 y) = absurd (false≢true a)
      go m1 r1 (q_gives x a i s1 ps1 hc hx p1 y) = r_ret cm.fn.here s hc hx (gone s1 y) (fewer s1 p1.arrays) (done (q_call x (back s s1) (stays s1 p1.words p1.arrays)))

sim_e : (v : Env) → Linked v → (n : ℕ) → Sim v n → SimE v (suc n)
sim_e v L n ih c (num k) d pc ps st s pre w at = sim_num v n ih c d pc ps st s pre k w at
sim_e v L n ih c (var x) d pc ps st s pre w at = sim_var v n ih c d pc ps st s pre x w at
sim_e v L n ih c (bin o a b) d pc ps st s pre w at = sim_bin v n ih c d pc ps st s pre o a b w at
sim_e v L n ih c (un o a) d pc ps st s pre w at = sim_un v n ih c d pc ps st s pre o a w at
sim_e v L n ih c (and1 a b) d pc ps st s pre w at = sim_and v n ih c d pc ps st s pre a b w at
sim_e v L n ih c (or1 a b) d pc ps st s pre w at = sim_or v n ih c d pc ps st s pre a b w at
sim_e v L n ih c (idx x e) d pc ps st s pre w at = sim_idx v n ih c d pc ps st s pre x e w at
sim_e v L n ih c (len x) d pc ps st s pre w at = sim_len v n ih c d pc ps st s pre x w at
sim_e v L n ih c (call x es) d pc ps st s pre w at = sim_call v L c d pc ps st s pre x es w at n ih
sim_e v L n ih c (by_table x e es) d pc ps st s pre w at = sim_table v L c d pc ps st s pre x e es w at n ih
sim_e v L n ih c input d pc ps st s pre w at = sim_in v n ih c d pc ps st s pre w at

sim_es : (v : Env) → (n : ℕ) → Sim v n → SimEs v (suc n)
sim_es v n ih c no [] d pc ps st s vs pre w at = sim_no v c d pc ps st s vs pre n w at
sim_es v n ih c no (k ∷ ks) d pc ps st s vs pre w at = absurd w
sim_es v n ih c (and_then a es) [] d pc ps st s vs pre w at = absurd w
sim_es v n ih c (and_then a es) (k_word ∷ ks) d pc ps st s vs pre w at = sim_word_arg v c d pc ps st s vs pre n ih a es ks w at
sim_es v n ih c (and_then a es) (k_arr k ∷ ks) d pc ps st s vs pre w at = sim_arr_arg v c d pc ps st s vs pre n ih a es k ks w at

sim_s : (v : Env) → Linked v → (n : ℕ) → Sim v n → SimS v (suc n)
sim_s v L n ih c (set1 x e) l d brk nxt pc ps st s pre w at = sim_set v n ih c l d brk nxt pc ps st s pre x e w at
sim_s v L n ih c (store1 x i e) l d brk nxt pc ps st s pre w at = sim_store v n ih c l d brk nxt pc ps st s pre x i e w at
sim_s v L n ih c (ex1 e) l d brk nxt pc ps st s pre w at = sim_ex v n ih c l d brk nxt pc ps st s pre e w at
sim_s v L n ih c (out1 e) l d brk nxt pc ps st s pre w at = sim_out v n ih c l d brk nxt pc ps st s pre e w at
sim_s v L n ih c (if1 e a b) l d brk nxt pc ps st s pre w at = sim_if v n ih c l d brk nxt pc ps st s pre e a b w at
sim_s v L n ih c (while1 e b) l d brk nxt pc ps st s pre w at = sim_while v n ih c l d brk nxt pc ps st s pre L.some_step e b w at
sim_s v L n ih c (ret1 e) l d brk nxt pc ps st s pre w at = sim_ret v n ih c l d brk nxt pc ps st s pre e w at
sim_s v L n ih c break1 l d brk nxt pc ps st s pre w at = sim_break v n ih c l d brk nxt pc ps st s pre w at
sim_s v L n ih c next1 l d brk nxt pc ps st s pre w at = sim_next v n ih c l d brk nxt pc ps st s pre w at

sim_b : (v : Env) → (n : ℕ) → Sim v n → SimB v (suc n)
sim_b v n ih c end l d brk nxt pc ps st s pre w at = sim_end v n ih c l d brk nxt pc ps st s pre w at
sim_b v n ih c (seq1 a b) l d brk nxt pc ps st s pre w at = sim_seq v n ih c l d brk nxt pc ps st s pre a b w at

-- every task, however far it is followed
pub sim : (v : Env) → Linked v → (n : ℕ) → Sim v n
sim v L zero = record {
  e = λ c e d pc ps st s pre w at. spentd (omega arith);
  es = λ c es ks d pc ps st s vs pre w at. spentd (omega arith);
  s = λ c a l d brk nxt pc ps st s pre w at. spentd (omega arith);
  w = λ c e b l d brk nxt pc ps st s pre w at. spentd (omega arith);
  b = λ c b l d brk nxt pc ps st s pre w at. spentd (omega arith);
  c = λ z c g vs fr st s cm. absurd (omega arith);
}
sim v L (suc n) = let ih = sim v L n in record { e = sim_e v L n ih; es = sim_es v n ih; s = sim_s v L n ih; w = λ c e b l d brk nxt pc ps st s pre w at. sim_head v n ih c l d brk nxt pc ps st s pre L.some_step e b w at; b = sim_b v n ih; c = λ z. sim_body v n ih }
