-- A rule for each step: what is to be shown before it, from what is shown behind it.
use Rattle.std.proofs.Common.{◌≡◌, ℕ, suc, ◌-◌, ◌%◌, Bool, true, false, not, eqb, List, [], ◌∷◌, ◌++◌, length}
use mathlib.Core.Option.{some, none}
use Rattle.language.specs.Syntax.{pick, nth, put, Fn}
use Rattle.language.specs.Words.{bit}
use Rattle.language.specs.Meaning.{State, Result, trap, Value, div0, binary, single, writes, Bind, with_vars, with_arrays, Cells, with_words, cost, enter, new_arrs, back}
use Rattle.steps.specs.Steps.{s_num, s_copy, s_bin, s_un, s_flag, s_getw, s_setw, s_jump, s_jz, s_call, s_out, s_ret, s_table, s_in, s_idx, s_put, s_len, Opnd, arr_at, arrs_at, fresh, upto, Act, MFn, MProg, Places, upd, Saved, args, entry}
use Rattle.steps.proofs.Outcome.{Cfg, mk, Out, stepd, trapd}

module _ {P : MProg} {W : ℕ} {Q : Cfg → Result → Type 0} {D pc : ℕ} {j : Act} {ps : Places} {st : List Saved} {s : State} {G : MFn} (hf : nth P.funs j.fn ≡ some G) where
  pub r_num : {r : Result} {d n : ℕ} → nth G.code pc ≡ some (s_num d n) → Out P W Q (D - W) (mk j (suc pc) (upd ps d n) st s) r → Out P W Q D (mk j pc ps st s) r
  r_num hc o = stepd (rw (hf, hc)) o

  pub r_copy : {r : Result} {d a x : ℕ} → nth G.code pc ≡ some (s_copy d a) → ps a ≡ some x → Out P W Q (D - W) (mk j (suc pc) (upd ps d x) st s) r → Out P W Q D (mk j pc ps st s) r
  r_copy hc h o = stepd (rw (hf, hc, h)) o

  -- to a variable's place
  pub r_set : {r : Result} {d a x : ℕ} (bs : List Bind) → nth G.code pc ≡ some (s_copy d a) → ps a ≡ some x → Out P W Q (D - W) (mk j (suc pc) (upd ps d x) st (with_vars s bs)) r → Out P W Q D (mk j pc ps st s) r
  r_set bs hc h o = stepd (rw (hf, hc, h)) o

  pub r_bin : {r : Result} {o d a b x y : ℕ} → nth G.code pc ≡ some (s_bin o d a b) → ps a ≡ some x → ps b ≡ some y → div0 o y ≡ false → Out P W Q (D - W) (mk j (suc pc) (upd ps d (binary o x y)) st s) r → Out P W Q D (mk j pc ps st s) r
  r_bin hc h k z o = stepd (rw (hf, hc, h, k, z)) o

  pub r_bin_trap : {o d a b x y : ℕ} → nth G.code pc ≡ some (s_bin o d a b) → ps a ≡ some x → ps b ≡ some y → div0 o y ≡ true → Out P W Q D (mk j pc ps st s) (trap 2 s)
  r_bin_trap hc h k z = trapd (rw (hf, hc, h, k, z))

  pub r_un : {r : Result} {o d a x : ℕ} → nth G.code pc ≡ some (s_un o d a) → ps a ≡ some x → Out P W Q (D - W) (mk j (suc pc) (upd ps d (single o x)) st s) r → Out P W Q D (mk j pc ps st s) r
  r_un hc h o = stepd (rw (hf, hc, h)) o

  pub r_flag : {r : Result} {d a x : ℕ} → nth G.code pc ≡ some (s_flag d a) → ps a ≡ some x → Out P W Q (D - W) (mk j (suc pc) (upd ps d (bit (not (eqb x 0)))) st s) r → Out P W Q D (mk j pc ps st s) r
  r_flag hc h o = stepd (rw (hf, hc, h)) o

  pub r_getw : {r : Result} {d i x : ℕ} → nth G.code pc ≡ some (s_getw d i) → nth s.words i ≡ some x → Out P W Q (D - W) (mk j (suc pc) (upd ps d x) st s) r → Out P W Q D (mk j pc ps st s) r
  r_getw hc h o = stepd (rw (hf, hc, h)) o

  pub r_setw : {r : Result} {i a x : ℕ} → nth G.code pc ≡ some (s_setw i a) → ps a ≡ some x → Out P W Q (D - W) (mk j (suc pc) ps st (with_words s (put s.words i x))) r → Out P W Q D (mk j pc ps st s) r
  r_setw hc h o = stepd (rw (hf, hc, h)) o

  pub r_jump : {r : Result} {t : ℕ} → nth G.code pc ≡ some (s_jump t) → Out P W Q (D - W) (mk j t ps st s) r → Out P W Q D (mk j pc ps st s) r
  r_jump hc o = stepd (rw (hf, hc)) o

  pub r_jz : {r : Result} {a t x : ℕ} → nth G.code pc ≡ some (s_jz a t) → ps a ≡ some x → Out P W Q (D - W) (mk j (pick (eqb x 0) t (suc pc)) ps st s) r → Out P W Q D (mk j pc ps st s) r
  r_jz hc h o = stepd (rw (hf, hc, h)) o

  pub r_out : {r : Result} {a x : ℕ} → nth G.code pc ≡ some (s_out a) → ps a ≡ some x → Out P W Q (D - W) (mk j (suc pc) ps st (writes x s)) r → Out P W Q D (mk j pc ps st s) r
  r_out hc h o = stepd (rw (hf, hc, h)) o

  -- a call: the marks of the meaning and of the steps are the same, since a call costs the same
  pub r_call : {r : Result} {d k n h : ℕ} {os : List Opnd} {xs as₁ : List ℕ} {H : MFn} (g : Fn) (vs : List Value) → nth G.code pc ≡ some (s_call d h k n os) → nth P.funs h ≡ some H → args ps k n ≡ some xs → arrs_at j.arrs os ≡ some as₁ → H.cost ≡ cost g → fresh H.own ≡ new_arrs g.arrs → Out P W Q (D - W) (mk (record { fn = h; arrs = as₁ ++ upto (length s.arrays) H.own }) 0 (entry H xs) (record { act = j; pc = suc pc; places = ps; dest = d } ∷ st) (enter g vs s)) r → Out P W Q D (mk j pc ps st s) r
  r_call g vs hc hh ha ho hq hn o = stepd (rw (hf, hc, hh, ha, ho, hq, hn)) o

  pub r_table : {r : Result} {d i t k n h x : ℕ} {os : List Opnd} {hs xs as₁ : List ℕ} {H : MFn} (g : Fn) (vs : List Value) → nth G.code pc ≡ some (s_table d i t k n os) → ps i ≡ some x → nth P.tables t ≡ some hs → nth hs x ≡ some h → nth P.funs h ≡ some H → args ps k n ≡ some xs → arrs_at j.arrs os ≡ some as₁ → H.cost ≡ cost g → fresh H.own ≡ new_arrs g.arrs → Out P W Q (D - W) (mk (record { fn = h; arrs = as₁ ++ upto (length s.arrays) H.own }) 0 (entry H xs) (record { act = j; pc = suc pc; places = ps; dest = d } ∷ st) (enter g vs s)) r → Out P W Q D (mk j pc ps st s) r
  r_table g vs hc hx ht hl hh ha ho hq hn o = stepd (rw (hf, hc, hx, ht, hl, hh, ha, ho, hq, hn)) o

  pub r_table_trap : {d i t k n x : ℕ} {os : List Opnd} {hs : List ℕ} → nth G.code pc ≡ some (s_table d i t k n os) → ps i ≡ some x → nth P.tables t ≡ some hs → nth hs x ≡ none → Out P W Q D (mk j pc ps st s) (trap 1 s)
  r_table_trap hc hx ht hl = trapd (rw (hf, hc, hx, ht, hl))

  pub r_ret : {r : Result} {a x : ℕ} {fr : Saved} (t : State) → nth G.code pc ≡ some (s_ret a) → ps a ≡ some x → s.held - G.cost ≡ t.held → length s.arrays - length G.own ≡ length t.arrays → Out P W Q (D - W) (mk fr.act fr.pc (upd fr.places fr.dest x) st (back t s)) r → Out P W Q D (mk j pc ps (fr ∷ st) s) r
  r_ret t hc h q u o = stepd (rw (hf, hc, h, q, u)) o

  pub r_in : {r : Result} {d x : ℕ} {xs : List ℕ} (t : State) → nth G.code pc ≡ some (s_in d) → s.ins ≡ x ∷ xs → t ≡ (record { words = s.words; arrays = s.arrays; vars = s.vars; ins = xs; outs = s.outs; held = s.held; calls = s.calls }) → Out P W Q (D - W) (mk j (suc pc) (upd ps d x) st t) r → Out P W Q D (mk j pc ps st s) r
  r_in t hc h e o = stepd (rw (hf, hc, h, e)) o

  pub r_in_trap : {d : ℕ} → nth G.code pc ≡ some (s_in d) → s.ins ≡ [] → Out P W Q D (mk j pc ps st s) (trap 3 s)
  r_in_trap hc h = trapd (rw (hf, hc, h))

  pub r_idx : {r : Result} {d u a i x : ℕ} {o : Opnd} {c : Cells} → nth G.code pc ≡ some (s_idx d o a) → ps a ≡ some i → arr_at j.arrs o ≡ some u → nth s.arrays u ≡ some c → nth c.cells i ≡ some x → Out P W Q (D - W) (mk j (suc pc) (upd ps d x) st s) r → Out P W Q D (mk j pc ps st s) r
  r_idx hc h ho k l z = stepd (rw (hf, hc, h, ho, k, l)) z

  pub r_idx_trap : {d u a i : ℕ} {o : Opnd} {c : Cells} → nth G.code pc ≡ some (s_idx d o a) → ps a ≡ some i → arr_at j.arrs o ≡ some u → nth s.arrays u ≡ some c → nth c.cells i ≡ none → Out P W Q D (mk j pc ps st s) (trap 1 s)
  r_idx_trap hc h ho k l = trapd (rw (hf, hc, h, ho, k, l))

  pub r_put : {r : Result} {w : Bool} {u a b i n x : ℕ} {o : Opnd} {c : Cells} → nth G.code pc ≡ some (s_put w o a b) → ps a ≡ some i → ps b ≡ some n → arr_at j.arrs o ≡ some u → nth s.arrays u ≡ some c → nth c.cells i ≡ some x → Out P W Q (D - W) (mk j (suc pc) ps st (with_arrays s (put s.arrays u (record { wide = c.wide; cells = put c.cells i (pick w n (n % 256)) })))) r → Out P W Q D (mk j pc ps st s) r
  r_put hc h g ho k l z = stepd (rw (hf, hc, h, g, ho, k, l)) z

  pub r_put_trap : {w : Bool} {u a b i n : ℕ} {o : Opnd} {c : Cells} → nth G.code pc ≡ some (s_put w o a b) → ps a ≡ some i → ps b ≡ some n → arr_at j.arrs o ≡ some u → nth s.arrays u ≡ some c → nth c.cells i ≡ none → Out P W Q D (mk j pc ps st s) (trap 1 s)
  r_put_trap hc h g ho k l = trapd (rw (hf, hc, h, g, ho, k, l))

  pub r_len : {r : Result} {d u : ℕ} {o : Opnd} {c : Cells} → nth G.code pc ≡ some (s_len d o) → arr_at j.arrs o ≡ some u → nth s.arrays u ≡ some c → Out P W Q (D - W) (mk j (suc pc) (upd ps d (length c.cells)) st s) r → Out P W Q D (mk j pc ps st s) r
  r_len hc ho k z = stepd (rw (hf, hc, ho, k)) z
