-- The processor: 32-bit words, the base instructions and multiplication of the RISC-V unprivileged specification (RV32IM, without fences,
-- counters and bytes), one step an instruction.
use Rattle.std.specs.Prelude.{ℕ, zero, suc, ◌+◌, ◌*◌, ◌/◌, ◌%◌, Bool, true, not, ◌&&◌, ◌||◌, List, [], ◌∷◌, ◌++◌, ◌==◌, nat_lt}
use Rattle.std.proofs.Math.Option.{Option, some, none}
use Rattle.language.specs.Syntax.{pick, opt, nth, put}
use Rattle.language.specs.Words.{all, bit, and_w, or_w, xor_w, add, sub, mul, shl, shr, up, signed}

-- 32 registers, of which 0 is always 0; memory by words, from address 0; what can be read, what was put out
pub record Machine : Type 0 where
  pub regs : List ℕ
  pub pc : ℕ
  pub mem : List ℕ
  pub ins : List ℕ
  pub outs : List ℕ

pub data Next : Type 0 where
  goes : Machine → Next
  -- it stopped, by an environment call: 0 at its end, with register 10; 3 trap, with register 10; 4 no room on the stack
  halts : ℕ → ℕ → Machine → Next
  -- an instruction that isn't one, or an address that isn't there
  faults : Next

abbrev pub reg : Machine → ℕ → ℕ
reg m r = pick (r == 0) 0 (opt (nth m.regs r) 0 (λ x. x))

abbrev pub set_reg : Machine → ℕ → ℕ → Machine
set_reg m r x = record { regs = put m.regs r x; pc = m.pc; mem = m.mem; ins = m.ins; outs = m.outs }

abbrev pub at_pc : Machine → ℕ → Machine
at_pc m a = record { regs = m.regs; pc = a; mem = m.mem; ins = m.ins; outs = m.outs }

abbrev pub on : Machine → Machine
on m = at_pc m (add m.pc 4)

abbrev pub load : Machine → ℕ → Option ℕ
load m a = pick (a % 4 == 0) (nth m.mem (a / 4)) none

-- fields of an instruction
abbrev pub f_op : ℕ → ℕ
f_op w = w % 128

abbrev pub f_rd : ℕ → ℕ
f_rd w = w / 128 % 32

abbrev pub f_3 : ℕ → ℕ
f_3 w = w / 4096 % 8

abbrev pub f_1 : ℕ → ℕ
f_1 w = w / 32768 % 32

abbrev pub f_2 : ℕ → ℕ
f_2 w = w / 1048576 % 32

abbrev pub f_7 : ℕ → ℕ
f_7 w = w / 33554432

abbrev pub imm_i_of : ℕ → ℕ
imm_i_of w = signed 12 (w / 1048576)

abbrev pub imm_s_of : ℕ → ℕ
imm_s_of w = signed 12 (f_7 w * 32 + f_rd w)

abbrev pub imm_b_of : ℕ → ℕ
imm_b_of w = signed 13 (f_7 w / 64 * 4096 + (f_rd w % 2 * 2048 + (f_7 w % 64 * 32 + f_rd w / 2 * 2)))

abbrev pub imm_u : ℕ → ℕ
imm_u w = w / 4096 * 4096

abbrev pub imm_j_of : ℕ → ℕ
imm_j_of w = signed 21 (w / 2147483648 * 1048576 + (w / 4096 % 256 * 4096 + (w / 1048576 % 2 * 2048 + w / 2097152 % 1024 * 2)))

abbrev pub less_s : ℕ → ℕ → Bool
less_s x y = nat_lt (up x) (up y)

-- shift to the right with the top bit kept
abbrev pub sar : ℕ → ℕ → ℕ
sar x n = pick (nat_lt x 2147483648) (shr x n) (xor_w 4294967295 (shr (xor_w 4294967295 x) n))

-- arithmetic: by the three bits of field 3, with the other form of 0 and 5
abbrev pub alu : ℕ → Bool → ℕ → ℕ → ℕ
alu f other x y =
    pick (f == 0) (pick other (sub x y) (add x y))
    (pick (f == 1) (shl x (y % 32))
    (pick (f == 2) (bit (less_s x y))
    (pick (f == 3) (bit (nat_lt x y))
    (pick (f == 4) (xor_w x y)
    (pick (f == 5) (pick other (sar x (y % 32)) (shr x (y % 32)))
    (pick (f == 6) (or_w x y) (and_w x y)))))))

-- multiplication and division without a sign: 0 low word, 3 high word, 5 quotient, 7 rest
abbrev pub muls : ℕ → ℕ → ℕ → Option ℕ
muls f x y =
    pick (f == 0) (some (mul x y))
    (pick (f == 3) (some (x * y / all))
    (pick (f == 5) (some (pick (y == 0) 4294967295 (x / y)))
    (pick (f == 7) (some (pick (y == 0) x (x % y))) none)))

abbrev pub branch : ℕ → ℕ → ℕ → Option Bool
branch f x y =
    pick (f == 0) (some (x == y))
    (pick (f == 1) (some (not (x == y)))
    (pick (f == 4) (some (less_s x y))
    (pick (f == 5) (some (not (less_s x y)))
    (pick (f == 6) (some (nat_lt x y))
    (pick (f == 7) (some (not (nat_lt x y))) none)))))

abbrev pub stored : Machine → ℕ → ℕ → Next
stored m a x = opt (load m a) faults (λ old. goes (on (record { regs = m.regs; pc = m.pc; mem = put m.mem (a / 4) x; ins = m.ins; outs = m.outs })))

abbrev pub put_reg : Machine → ℕ → ℕ → Next
put_reg m r x = goes (on (set_reg m r x))

-- environment calls, by register 17: 0 end, 1 put out register 10, 2 read into register 10 with 1 in 11, or 0 in both if there is nothing, 3 trap, 4 no room on the stack
abbrev pub reads : Machine → List ℕ → Next
reads m [] = goes (on (set_reg (set_reg m 10 0) 11 0))
reads m (n ∷ ns) = goes (on (set_reg (set_reg (record { regs = m.regs; pc = m.pc; mem = m.mem; ins = ns; outs = m.outs }) 10 n) 11 1))

abbrev pub envs : Machine → ℕ → Next
envs m c =
    pick (c == 0) (halts 0 (reg m 10) m)
    (pick (c == 1) (goes (on (record { regs = m.regs; pc = m.pc; mem = m.mem; ins = m.ins; outs = m.outs ++ (reg m 10 ∷ []) })))
    (pick (c == 2) (reads m m.ins)
    (pick (c == 3) (halts 3 (reg m 10) m)
    (pick (c == 4) (halts 4 0 m) faults))))

-- what the manual keeps free is no instruction: with a number, shifts have noughts before their number, or 32 for the arithmetic one;
-- without, field 7 is 0, or 32 for subtraction and the arithmetic shift
abbrev pub ok_i : ℕ → Bool
ok_i w = pick (f_3 w == 1) (f_7 w == 0) (pick (f_3 w == 5) (f_7 w == 0 || f_7 w == 32) true)

abbrev pub ok_r : ℕ → Bool
ok_r w = f_7 w == 0 || (f_7 w == 32 && (f_3 w == 0 || f_3 w == 5))

abbrev pub does : Machine → ℕ → Next
does m w = pick (f_op w == 55) (put_reg m (f_rd w) (imm_u w))
    (pick (f_op w == 23) (put_reg m (f_rd w) (add m.pc (imm_u w)))
    (pick (f_op w == 111) (goes (at_pc (set_reg m (f_rd w) (add m.pc 4)) (add m.pc (imm_j_of w))))
    (pick (f_op w == 103 && f_3 w == 0) (goes (at_pc (set_reg m (f_rd w) (add m.pc 4)) (add (reg m (f_1 w)) (imm_i_of w) / 2 * 2)))
    (pick (f_op w == 99) (opt (branch (f_3 w) (reg m (f_1 w)) (reg m (f_2 w))) faults (λ b. goes (pick b (at_pc m (add m.pc (imm_b_of w))) (on m))))
    (pick (f_op w == 3 && f_3 w == 2) (opt (load m (add (reg m (f_1 w)) (imm_i_of w))) faults (put_reg m (f_rd w)))
    (pick (f_op w == 35 && f_3 w == 2) (stored m (add (reg m (f_1 w)) (imm_s_of w)) (reg m (f_2 w)))
    (pick (f_op w == 19 && ok_i w) (put_reg m (f_rd w) (alu (f_3 w) (f_3 w == 5 && f_7 w == 32) (reg m (f_1 w)) (imm_i_of w)))
    (pick (f_op w == 51 && f_7 w == 1) (opt (muls (f_3 w) (reg m (f_1 w)) (reg m (f_2 w))) faults (put_reg m (f_rd w)))
    (pick (f_op w == 51 && ok_r w) (put_reg m (f_rd w) (alu (f_3 w) (f_7 w == 32) (reg m (f_1 w)) (reg m (f_2 w))))
    (pick (w == 115) (envs m (reg m 17)) faults))))))))))

abbrev pub step : Machine → Next
step m = opt (load m m.pc) faults (does m)

abbrev pub then : Next → (Machine → Next) → Next
then (goes m) f = f m
then (halts c x m) f = halts c x m
then faults f = faults

abbrev pub after : ℕ → Machine → Next
after zero m = goes m
after (suc k) m = then (after k m) step

abbrev pub shown : Next → List ℕ
shown (goes m) = m.outs
shown (halts c x m) = m.outs
shown faults = []
