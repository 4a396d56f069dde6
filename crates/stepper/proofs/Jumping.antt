-- What each node's code does is what the fold does: jumps.
use Rattle.std.proofs.Common.{◌≡◌, ℕ, ◌+◌, ◌-◌, ◌*◌, ◌≤◌, min, List, [], ◌∷◌, ◌++◌, length, ap, ◌∙◌, subst, append_assoc, arith, length-append}
use Rattle.rows.specs.declared.row.Row.{Row}
use Rattle.steps.specs.Steps.{Step, s_num, s_jump, s_ret}
use Rattle.generator.specs.Resolved.{v_else, v_loop, v_again, v_break, v_next, v_end}
use Rattle.generator.specs.Emit.{above, target_at, aim_at}
use Rattle.generator.specs.StepRows.{step_words}
use Rattle.stepper.specs.declared.writer.Writer.{Writer}
use Rattle.stepper.specs.Stands.{Room, Holds, Stepped, Aimed, Landed, Turned}
use Rattle.stepper.proofs.Targets.{aim-long}
use Rattle.stepper.proofs.Standing.{marked, stands-step, stands-marks, stands-steps, stands_aim, stands-was, place_is, room-less, holds-room, kept-more, kept-marks}

room_aimed : (o : Row) (xs : List Step) (i u : ℕ) → Room o (aim_at xs i u) → Room o xs
room_aimed o xs i u h = subst (λ (n : ℕ). o.len + 5 * n ≤ length o.words.now) (aim-long xs i u) h

pub landed : {w x : Writer} {t : ℕ} → Aimed w x w.waiting w.next t → Landed w (marked x t x.head)
landed {w} {x} {t} g = record {
  kept = kept-marks t x.head g.same.kept;
  goes = λ b z o f.
      let room = room_aimed o z.out z.waiting (length z.out) in
      let f1 = stands_aim z.waiting w.waiting (length z.out) w.next f g (λ h. h.waiting) f.next in
      stands-marks (target_at z.out z.waiting) z.head t x.head (λ r. stands-was z.waiting w.waiting w.next f g (λ h. h.waiting) (room r)) (λ r. (f1.holds r).head) f1;
}

pub parted : {w x y : Writer} {t : ℕ} (u : ℕ) → u ≡ min (w.next + 1) 4294967295 → Aimed w x w.waiting u t → Stepped x y (s_jump t) → Turned v_else w (marked y w.next y.head)
parted {w} {x} {y} {t} u eu g h = record {
  kept = kept-marks w.next y.head (kept-more g.same.kept h.same.kept);
  goes = λ b z o c sm f.
      let steps = sm.steps in
      let nx = f.next in
      let was = target_at z.out z.waiting in
      let room = room_aimed o z.out z.waiting (length z.out + 1) in
      let f1 = stands_aim z.waiting w.waiting (length z.out + 1) u f g (λ k. k.waiting) (omega arith) in
      let f2 = stands-step (s_jump t) (s_jump was) f1 h (omega (arith, aim-long z.out z.waiting (length z.out + 1))) (λ k. ap (λ n. step_words (s_jump n)) (stands-was z.waiting w.waiting u f g (λ i. i.waiting) (room (holds-room k)))) in
      stands-marks (length z.out) z.head w.next y.head (λ _. nx) (λ k. (f2.holds k).head) f2;
}

pub looped : {w x y : Writer} (u : ℕ) → u ≡ min (w.next + 2) 4294967295 → Stepped w x (s_jump u) → Stepped x y (s_jump x.head) → Turned v_loop w (marked y y.waiting u)
looped {w} {x} {y} u eu h1 h2 = record {
  kept = kept-marks y.waiting u (kept-more h1.same.kept h2.same.kept);
  goes = λ b z o c sm f.
      let steps = sm.steps in
      let nx = f.next in
      let uu : u ≡ length z.out + 2 = omega arith in
      let x1 = s_jump (length z.out + 2) in
      let x2 = s_jump z.head in
      let f1 = stands-step (s_jump u) x1 f h1 (omega arith) (λ _. ap (λ n. step_words (s_jump n)) uu) in
      let f2 = stands-step (s_jump x.head) x2 f1 h2 (omega (arith, length-append z.out (x1 ∷ []))) (λ k. ap (λ n. step_words (s_jump n)) k.head) in
      stands-steps ((z.out ++ (x1 ∷ [])) ++ (x2 ∷ [])) (z.out ++ (x1 ∷ x2 ∷ [])) (append_assoc z.out (x1 ∷ []) (x2 ∷ []))
      (stands-marks z.waiting (length z.out + 2) y.waiting u (λ k. (f2.holds k).waiting) (λ _. uu) f2);
}

pub repeated : {w x y : Writer} {t : ℕ} (j u : ℕ) → j ≡ w.head - 1 → u ≡ min (w.next + 1) 4294967295 → Aimed w x j u t → Stepped x y (s_jump x.head) → Turned v_again w (marked y y.waiting t)
repeated {w} {x} {y} {t} j u ej eu g h = record {
  kept = kept-marks y.waiting t (kept-more g.same.kept h.same.kept);
  goes = λ b z o c sm f.
      let steps = sm.steps in
      let nx = f.next in
      let i = z.head - 1 in
      let aimed = aim_at z.out i (length z.out + 1) in
      let same : Holds z w o → j ≡ i = λ k. ej ∙ ap (λ n. n - 1) k.head in
      let f1 = stands_aim i j (length z.out + 1) u f g same (omega arith) in
      let f2 = stands-step (s_jump x.head) (s_jump z.head) f1 h (omega (arith, aim-long z.out i (length z.out + 1))) (λ k. ap (λ n. step_words (s_jump n)) k.head) in
      stands-marks z.waiting (target_at z.out i) y.waiting t (λ k. (f2.holds k).waiting) (λ k. stands-was i j u f g same (room_aimed o z.out i (length z.out + 1) (room-less o aimed (s_jump z.head) k))) f2;
}

pub left : {w x : Writer} (j : ℕ) → j ≡ w.head - 1 → Stepped w x (s_jump j) → Turned v_break w x
left {w} {x} j ej h = record {
  kept = h.same.kept;
  goes = λ b z o c sm f. let steps = sm.steps in stands-step (s_jump j) (s_jump (z.head - 1)) f h (omega arith) (λ k. ap (λ n. step_words (s_jump n)) (ej ∙ ap (λ n. n - 1) k.head));
}

pub continued : {w x : Writer} → Stepped w x (s_jump w.head) → Turned v_next w x
continued {w} {x} h = record {
  kept = h.same.kept;
  goes = λ b z o c sm f. let steps = sm.steps in stands-step (s_jump w.head) (s_jump z.head) f h (omega arith) (λ k. ap (λ n. step_words (s_jump n)) k.head);
}

pub ended : {w x y : Writer} (d : ℕ) → d ≡ min (w.base + w.height) 4294967295 → Stepped w x (s_num d 0) → Stepped x y (s_ret d) → Turned v_end w y
ended {w} {x} {y} d e h1 h2 = record {
  kept = kept-more h1.same.kept h2.same.kept;
  goes = λ b z o c sm f.
      let steps = sm.steps in
      let places = sm.places in
      let dd = place_is f sm.deep (omega arith) e in
      let x1 = s_num (above b z.pile) 0 in
      let x2 = s_ret (above b z.pile) in
      let f1 = stands-step (s_num d 0) x1 f h1 (omega arith) (λ _. ap (λ n. step_words (s_num n 0)) dd) in
      let f2 = stands-step (s_ret d) x2 f1 h2 (omega (arith, length-append z.out (x1 ∷ []))) (λ _. ap (λ n. step_words (s_ret n)) dd) in
      stands-steps ((z.out ++ (x1 ∷ [])) ++ (x2 ∷ [])) (z.out ++ (x1 ∷ x2 ∷ [])) (append_assoc z.out (x1 ∷ []) (x2 ∷ [])) f2;
}
