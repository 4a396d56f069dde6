use Rattle.std.proofs.Common.{◌≡◌, sym, refl, subst}
use Rattle.steps.specs.Steps.{s_num, s_copy, s_getw, s_setw, s_out, s_ret}
use Rattle.generator.specs.Resolved.{v_num, v_copy, v_get, v_set, v_setw, v_clear, v_out, v_ret}
use Rattle.stepper.specs.declared.writer.Writer.{Writer}
use Rattle.stepper.specs.declared.node.Node.{Node}
use Rattle.stepper.specs.declared.node.Node.TheVariants.{Num, Own, Copy, Get, Set, SetWord, Clear, Out, Ret}
use Rattle.stepper.specs.Nodes.{meant}
use Rattle.stepper.specs.Stands.{Turned}
use Rattle.stepper.proofs.Turning.{fetched, own_put, shown}
use Rattle.stepper.proofs.Testing.{used}
use Rattle.stepper.proofs.writer.Writer.turn.Goals as goal

-- at the node that was met
at-node : {w x : Writer} {n : Node} (m : Node) → n ≡ m → Turned (meant m) w x → Turned (meant n) w x
at-node {w} {x} m e g = subst (λ k. Turned (meant k) w x) (sym e) g

pub returns-in-Num : goal.returns-in-Num
returns-in-Num c = at-node (Num c.in-Num.n) c.in-Num.is (fetched (v_num c.in-Num.n) (λ d. s_num d c.in-Num.n) c.place.ensures (λ b z. refl) c.make.ensures)

pub returns-in-Own : goal.returns-in-Own
returns-in-Own c = at-node (Own c.in-Own.k) c.in-Own.is (own_put c.put.ensures)

pub returns-in-Copy : goal.returns-in-Copy
returns-in-Copy c = at-node (Copy c.in-Copy.k) c.in-Copy.is (fetched (v_copy c.in-Copy.k) (λ d. s_copy d c.in-Copy.k) c.place-in-Copy.ensures (λ b z. refl) c.make-in-Copy.ensures)

pub returns-in-Get : goal.returns-in-Get
returns-in-Get c = at-node (Get c.in-Get.i) c.in-Get.is (fetched (v_get c.in-Get.i) (λ d. s_getw d c.in-Get.i) c.place-in-Get.ensures (λ b z. refl) c.make-in-Get.ensures)

pub returns-in-Set : goal.returns-in-Set
returns-in-Set c = at-node (Set c.in-Set.k) c.in-Set.is (used (v_set c.in-Set.k) (s_copy c.in-Set.k) c.settle-value.ensures c.write.ensures (λ b z. refl))

pub returns-in-SetWord : goal.returns-in-SetWord
returns-in-SetWord c = at-node (SetWord c.in-SetWord.i) c.in-SetWord.is (used (v_setw c.in-SetWord.i) (s_setw c.in-SetWord.i) c.settle-value-in-SetWord.ensures c.write-in-SetWord.ensures (λ b z. refl))

pub returns-in-Clear : goal.returns-in-Clear
returns-in-Clear c = at-node Clear c.in-Clear.is (used v_clear (λ d. s_num d 0) c.settle-value-in-Clear.ensures c.write-in-Clear.ensures (λ b z. refl))

pub returns-in-Out : goal.returns-in-Out
returns-in-Out c = at-node Out c.in-Out.is (shown v_out s_out c.take-value.ensures c.write-in-Out.ensures (λ b z. refl))

pub returns-in-Ret : goal.returns-in-Ret
returns-in-Ret c = at-node Ret c.in-Ret.is (shown v_ret s_ret c.take-value-in-Ret.ensures c.write-in-Ret.ensures (λ b z. refl))
