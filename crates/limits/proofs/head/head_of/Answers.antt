-- `head_of`: the head of a function's row, word by word.
use Rattle.std.proofs.Common.{◌≡◌, ◌+◌, ◌++◌, length, sym, ◌∙◌, arith}
use Rattle.language.specs.Syntax.{i_fn}
use Rattle.rows.specs.Trees.{map_list, of_param, of_var, locals}
use Rattle.rows.proofs.Having.{has_word, has_to, read_at}
use Rattle.limits.proofs.Places.{item_tail, params_at, words_at, locals_at, names_and_body, long_params, long_words, long-locals}
use Rattle.limits.proofs.head.head_of.Goals as goal

pub returns : goal.returns
returns c = λ g h.
    let t = item_tail (omega arith) c.saturating_add.ensures c.past_name-place.ensures (i_fn g) h in
    let p : c.at-params.result ≡ length g.params = c.at-params.ensures.is ∙ has_word t in
    let v : c.at-vars.result ≡ length g.vars = read_at {k = 1} t (omega arith) (omega arith) c.saturating_add-2.ensures c.at-vars.ensures.is in
    let a : c.at-arrays.result ≡ length g.arrs = read_at {k = 2} t (omega arith) (omega arith) c.saturating_add-3.ensures c.at-arrays.ensures.is in
    let e : c.past_name-place.result + 3 ≡ c.saturating_add-names.result = omega (arith, (names_and_body g t).inside, c.saturating_add-names.ensures) in
    record {
      params = c.new.ensures.left (map_list of_param g.params) (has_to e (params_at g t)) (omega (arith, long_params g));
      words = c.new-2.ensures.left (map_list of_param g.params ++ map_list of_var g.vars) (has_to e (words_at g t)) (omega (arith, long_words g));
      locals = c.new-3.ensures.left (locals g) (has_to e (locals_at g t)) (omega (arith, long-locals g));
      vars = v;
      arrays = a;
      first = c.new-2.ensures.starts ∙ sym c.new-3.ensures.starts;
      body = has_to (sym c.new-3.ensures.starts) (has_to e (names_and_body g t));
    }
