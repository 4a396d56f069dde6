-- What each resolved node makes of the steps so far. One pass from left to right: values wait on a pile; a jump forward waits in a chain, its
-- target field holding the number of the jump that waited before it.
use Rattle.std.specs.Prelude.{◌≡◌, List, [], ◌∷◌, ◌++◌, ℕ, zero, suc, ◌+◌, ◌-◌, length}
use Rattle.language.specs.Syntax.{Block}
use Rattle.rows.specs.Nodes.{nodes_b}
use Rattle.steps.specs.Steps.{Opnd, Step, s_num, s_copy, s_bin, s_un, s_flag, s_getw, s_setw, s_jump, s_jz, s_call, s_table, s_out, s_ret, s_in, s_idx, s_put, s_len}
use Rattle.steps.specs.Generate.{Scope, gen_body}
use Rattle.generator.specs.Resolved.{Resolved, v_num, v_own, v_copy, v_get, v_arr, v_bin, v_un, v_and, v_or, v_join, v_idx, v_len, v_call, v_by, v_in, v_set, v_setw, v_clear, v_store, v_ex, v_out, v_if, v_else, v_fi, v_loop, v_while, v_again, v_ret, v_break, v_next, v_end, resolve_nodes}

-- a value that waits: in its temporary place, as a word of the function's own, or an array
pub data Entry : Type 0 where
  e_temp : Entry
  e_own : ℕ → Entry
  e_arr : Opnd → Entry

-- an array takes no place
abbrev pub raise : Entry → ℕ → ℕ
raise e_temp n = suc n
raise (e_own k) n = suc n
raise (e_arr o) n = n

-- the pile's top is first; the first free place above a pile that begins at place d
abbrev pub above : ℕ → List Entry → ℕ
above d [] = d
above d (e ∷ es) = raise e (above d es)

abbrev pub place_of : ℕ → Entry → ℕ
place_of d e_temp = d
place_of d (e_own k) = k
place_of d (e_arr o) = d

-- what is under the top, and the top
abbrev pub under : List Entry → List Entry
under [] = []
under (e ∷ es) = es

abbrev pub top : List Entry → Entry
top [] = e_temp
top (e ∷ es) = e

-- under the n topmost; how many words, and which arrays, are among those, the lowest first
abbrev pub below : ℕ → List Entry → List Entry
below zero es = es
below (suc n) es = below n (under es)

abbrev pub words_in : ℕ → List Entry → ℕ
words_in zero es = 0
words_in (suc n) es = raise (top es) (words_in n (under es))

abbrev pub arrays_of : Entry → List Opnd
arrays_of e_temp = []
arrays_of (e_own k) = []
arrays_of (e_arr o) = o ∷ []

abbrev pub arrays_in : ℕ → List Entry → List Opnd
arrays_in zero es = []
arrays_in (suc n) es = arrays_in n (under es) ++ arrays_of (top es)

-- the target of a step, and another
abbrev pub target_of : Step → ℕ
target_of (s_num d n) = 0
target_of (s_copy d a) = 0
target_of (s_bin o d a b) = 0
target_of (s_un o d a) = 0
target_of (s_flag d a) = 0
target_of (s_getw d i) = 0
target_of (s_setw i a) = 0
target_of (s_jump t) = t
target_of (s_jz a t) = t
target_of (s_call d h k n os) = 0
target_of (s_table d i t k n os) = 0
target_of (s_out a) = 0
target_of (s_ret a) = 0
target_of (s_in d) = 0
target_of (s_idx d o i) = 0
target_of (s_put w o i a) = 0
target_of (s_len d o) = 0

abbrev pub aim : ℕ → Step → Step
aim u (s_num d n) = s_num d n
aim u (s_copy d a) = s_copy d a
aim u (s_bin o d a b) = s_bin o d a b
aim u (s_un o d a) = s_un o d a
aim u (s_flag d a) = s_flag d a
aim u (s_getw d i) = s_getw d i
aim u (s_setw i a) = s_setw i a
aim u (s_jump t) = s_jump u
aim u (s_jz a t) = s_jz a u
aim u (s_call d h k n os) = s_call d h k n os
aim u (s_table d i t k n os) = s_table d i t k n os
aim u (s_out a) = s_out a
aim u (s_ret a) = s_ret a
aim u (s_in d) = s_in d
aim u (s_idx d o i) = s_idx d o i
aim u (s_put w o i a) = s_put w o i a
aim u (s_len d o) = s_len d o

abbrev pub target_at : List Step → ℕ → ℕ
target_at [] i = 0
target_at (s ∷ ss) zero = target_of s
target_at (s ∷ ss) (suc i) = target_at ss i

abbrev pub aim_at : List Step → ℕ → ℕ → List Step
aim_at [] i u = []
aim_at (s ∷ ss) zero u = aim u s ∷ ss
aim_at (s ∷ ss) (suc i) u = s ∷ aim_at ss i u

-- the pile, the last jump that waits, the innermost loop's head (the step before it waits for the loop's end), the steps so far
pub record Marks : Type 0 where
  pub pile : List Entry
  pub waiting : ℕ
  pub head : ℕ
  pub out : List Step

abbrev pub marks : List Entry → ℕ → ℕ → List Step → Marks
marks p o h r = record { pile = p; waiting = o; head = h; out = r }

-- a step more, and a value more in the first free place
abbrev pub makes : Marks → List Entry → Step → Marks
makes z p s = marks (e_temp ∷ p) z.waiting z.head (z.out ++ (s ∷ []))

-- a step more, and these values left
abbrev pub leaves : Marks → List Entry → Step → Marks
leaves z p s = marks p z.waiting z.head (z.out ++ (s ∷ []))

-- the top in its temporary place
abbrev pub settled : ℕ → Entry → List Step → List Step
settled d e_temp r = r
settled d (e_own k) r = r ++ (s_copy d k ∷ [])
settled d (e_arr o) r = r

abbrev pub settle : ℕ → Marks → Marks
settle b z = marks (e_temp ∷ under z.pile) z.waiting z.head (settled (above b (under z.pile)) (top z.pile) z.out)

-- a jump that waits, put behind the steps
abbrev pub waits : Marks → Step → Marks
waits z s = marks (under z.pile) (length z.out) z.head (z.out ++ (s ∷ []))

-- the last jump that waits comes here
abbrev pub lands : Marks → Marks
lands z = marks z.pile (target_at z.out z.waiting) z.head (aim_at z.out z.waiting (length z.out))

-- the place of the pile's top
abbrev pub last : ℕ → Marks → ℕ
last b z = above b (under z.pile)

-- nodes that want their value in its place, once it is there; from place b on
abbrev pub tests : ℕ → Marks → Marks
tests b z = waits z (s_jz (last b z) z.waiting)

abbrev pub or_tests : ℕ → Marks → Marks
or_tests b z = marks (under z.pile) (length z.out + 2) z.head (z.out ++ (s_jz (last b z) (length z.out + 3) ∷ s_num (last b z) 1 ∷ s_jump z.waiting ∷ []))

abbrev pub joins : ℕ → Marks → Marks
joins b z = lands (leaves z z.pile (s_flag (last b z) (last b z)))

abbrev pub stays : ℕ → Marks → Marks
stays b z = leaves z (under z.pile) (s_jz (last b z) (z.head - 1))

-- a step that takes the value from its place
abbrev pub uses : ℕ → (ℕ → Step) → Marks → Marks
uses b s z = leaves z (under z.pile) (s (last b z))

abbrev pub forgets : Marks → Marks
forgets z = marks (under z.pile) z.waiting z.head z.out

abbrev pub emit : ℕ → Resolved → Marks → Marks
emit b (v_num n) z = makes z z.pile (s_num (above b z.pile) n)
emit b (v_own k) z = marks (e_own k ∷ z.pile) z.waiting z.head z.out
emit b (v_copy k) z = makes z z.pile (s_copy (above b z.pile) k)
emit b (v_get i) z = makes z z.pile (s_getw (above b z.pile) i)
emit b (v_arr o) z = marks (e_arr o ∷ z.pile) z.waiting z.head z.out
emit b (v_bin o) z = let p = under (under z.pile) in let d = above b p in makes z p (s_bin o d (place_of d (top (under z.pile))) (place_of (suc d) (top z.pile)))
emit b (v_un o) z = let p = under z.pile in let d = above b p in makes z p (s_un o d (place_of d (top z.pile)))
emit b v_and z = tests b (settle b z)
emit b v_or z = or_tests b (settle b z)
emit b v_join z = joins b (settle b z)
emit b (v_idx o) z = let p = under z.pile in let d = above b p in makes z p (s_idx d o (place_of d (top z.pile)))
emit b (v_len o) z = makes z z.pile (s_len (above b z.pile) o)
emit b (v_call f n) z = let p = below n z.pile in let d = above b p in makes z p (s_call d f d (words_in n z.pile) (arrays_in n z.pile))
emit b (v_by t n) z = let q = below n z.pile in let d = above b (under q) in makes z (under q) (s_table d (place_of d (top q)) t (suc d) (words_in n z.pile) (arrays_in n z.pile))
emit b v_in z = makes z z.pile (s_in (above b z.pile))
emit b (v_set k) z = uses b (s_copy k) (settle b z)
emit b (v_setw i) z = uses b (s_setw i) (settle b z)
emit b v_clear z = uses b (λ d. s_num d 0) (settle b z)
emit b (v_store w o) z = let p = under (under z.pile) in let d = above b p in leaves z p (s_put w o (place_of d (top (under z.pile))) (place_of (suc d) (top z.pile)))
emit b v_ex z = forgets (settle b z)
emit b v_out z = let p = under z.pile in leaves z p (s_out (place_of (above b p) (top z.pile)))
emit b v_if z = tests b (settle b z)
emit b v_else z = marks z.pile (length z.out) z.head (aim_at z.out z.waiting (length z.out + 1) ++ (s_jump (target_at z.out z.waiting) ∷ []))
emit b v_fi z = lands z
emit b v_loop z = marks z.pile z.waiting (length z.out + 2) (z.out ++ (s_jump (length z.out + 2) ∷ s_jump z.head ∷ []))
emit b v_while z = stays b (settle b z)
emit b v_again z = marks z.pile z.waiting (target_at z.out (z.head - 1)) (aim_at z.out (z.head - 1) (length z.out + 1) ++ (s_jump z.head ∷ []))
emit b v_ret z = let p = under z.pile in leaves z p (s_ret (place_of (above b p) (top z.pile)))
emit b v_break z = leaves z z.pile (s_jump (z.head - 1))
emit b v_next z = leaves z z.pile (s_jump z.head)
emit b v_end z = marks z.pile z.waiting z.head (z.out ++ (s_num (above b z.pile) 0 ∷ s_ret (above b z.pile) ∷ []))

abbrev pub run : ℕ → List Resolved → Marks → Marks
run b [] z = z
run b (v ∷ vs) z = run b vs (emit b v z)

-- the nodes of a body, resolved and run, make the body's steps
abbrev pub EmitsBody : Type 0
EmitsBody = (Γ : Scope) (body : Block) (b : ℕ) → (run b (resolve_nodes Γ (nodes_b body)) (marks [] 0 0 [])).out ≡ gen_body Γ body b
