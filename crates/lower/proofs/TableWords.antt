-- The words of the code and of the tables behind it.
use mathlib.Core.Path.{◌≡◌, refl, sym, ap, ◌∙◌}
use mathlib.Core.List.{List, [], ◌∷◌, ◌++◌}
use mathlib.Core.Option.{some}
use Prim.Native.Nat.{ℕ, zero, suc, ◌+◌, ◌-◌, ◌*◌, ◌%◌, ◌<◌}
use native.Mathlib.Omega.{arith}
use native.Mathlib.Nat.{zero-add}
use lib.ListN.{length, length-append}
use Rattle.language.specs.Syntax.{nth}
use Rattle.language.specs.Words.{all}
use Rattle.steps.specs.Steps.{MFn, MProg}
use Rattle.steps.specs.Fits.{Each, Small}
use Rattle.lower.specs.Code.{LI}
use Rattle.lower.specs.Lower.{area, begin_of, tlens, tab_size, tab_row, tab_words, data_words, entry_in, fun_of, row_of, words_of, code_words}
use Rattle.lower.proofs.Lists.{nth_left, nth_right, none-some}
use Rattle.steps.proofs.Fits.{each_++}
use Rattle.lower.proofs.InRow.{Neat}
use Rattle.lower.proofs.Encoded.{coded-row, row_fits}
use Rattle.lower.proofs.Start.{Coded}

words_long : (p : ℕ) (is : List LI) → length (words_of p is) ≡ length is
words_long p [] = refl
words_long p (i ∷ is) = ap suc (words_long (suc p) is)

row-long : (en : ℕ → ℕ) (n : ℕ) (hs : List ℕ) → length (tab_row en n hs) ≡ length hs
row-long en n [] = refl
row-long en n (h ∷ hs) = ap suc (row-long en n hs)

tabs-long : (en : ℕ → ℕ) (n : ℕ) (ts : List (List ℕ)) → length (tab_words en n ts) ≡ area (tlens ts)
tabs-long en n [] = refl
tabs-long en n (hs ∷ ts) = omega (arith, length-append (tab_row en n hs) (tab_words en n ts), row-long en n hs, tabs-long en n ts)

row-nth : (en : ℕ → ℕ) (n : ℕ) (hs : List ℕ) (x h : ℕ) → nth hs x ≡ some h → nth (tab_row en n hs) x ≡ some ((all - 4 * (n - en h)) % all)
row-nth en n [] x h e = none-some h e
row-nth en n (k ∷ hs) zero h e = let z : k ≡ h = cc in ap (λ i. some ((all - 4 * (n - en i)) % all)) z
row-nth en n (k ∷ hs) (suc x) h e = row-nth en n hs x h e

tabs-nth : (en : ℕ → ℕ) (n : ℕ) (ts : List (List ℕ)) (t x h : ℕ) (hs : List ℕ) → nth ts t ≡ some hs → nth hs x ≡ some h → nth (tab_words en n ts) (begin_of (tlens ts) t + x) ≡ some ((all - 4 * (n - en h)) % all)
tabs-nth en n [] t x h hs e q = none-some hs e
tabs-nth en n (ks ∷ ts) zero x h hs e q = let z : ks ≡ hs = cc in let y : nth ks x ≡ some h = ap (λ l. nth l x) z ∙ q in ap (nth (tab_row en n ks ++ tab_words en n ts)) (zero-add x) ∙ nth_left (tab_row en n ks) (tab_words en n ts) x _ (row-nth en n ks x h y)
tabs-nth en n (ks ∷ ts) (suc t) x h hs e q = let y : (length ks + begin_of (tlens ts) t) + x ≡ length (tab_row en n ks) + (begin_of (tlens ts) t + x) = omega (arith, row-long en n ks) in ap (nth (tab_row en n ks ++ tab_words en n ts)) y ∙ (nth_right (tab_row en n ks) (tab_words en n ts) (begin_of (tlens ts) t + x) ∙ tabs-nth en n ts t x h hs e q)

-- all of them are words
row_small : (en : ℕ → ℕ) (n : ℕ) (hs : List ℕ) → Each Small (tab_row en n hs)
row_small en n [] = tt
row_small en n (h ∷ hs) = (omega arith, row_small en n hs)

pub tabs-small : (en : ℕ → ℕ) (n : ℕ) (ts : List (List ℕ)) → Each Small (tab_words en n ts)
tabs-small en n [] = tt
tabs-small en n (hs ∷ ts) = each_++ Small (tab_row en n hs) (tab_words en n ts) (row_small en n hs) (tabs-small en n ts)

module _ (m : MProg) (main : ℕ) where
  abbrev N : ℕ
  N = (length (row_of m main) + tab_size m) + data_words m

  abbrev ws : List ℕ
  ws = words_of 0 (row_of m main)

  abbrev tw : List ℕ
  tw = tab_words (entry_in m) N m.tables

  all_long : length (code_words m main) ≡ length (row_of m main) + tab_size m
  all_long = length-append ws tw ∙ (ap (λ n. n + length tw) (words_long 0 (row_of m main)) ∙ ap (λ n. length (row_of m main) + n) (tabs-long (entry_in m) N m.tables))

  pub coded_all : ((g : ℕ) (f : MFn) → fun_of m g ≡ some f → Neat m f) → length (row_of m main) < 262144 → Coded m main (code_words m main)
  coded_all neat short =
      record {
        row = λ p i e. let (w, k, f) = coded-row (row_of m main) (row_fits m main neat short) p i e in (w, nth_left ws tw p w k, f);
        tabs_in = omega (arith, all_long);
        tabs = λ t x h hs e q.
            let y : (length (code_words m main) - tab_size m) + (begin_of (tlens m.tables) t + x) ≡ length ws + (begin_of (tlens m.tables) t + x) = omega (arith, all_long, words_long 0 (row_of m main)) in
            ap (nth (code_words m main)) y ∙ (nth_right ws tw _ ∙ (tabs-nth (entry_in m) N m.tables t x h hs e q ∙ ap (λ n. some ((all - 4 * ((n + data_words m) - entry_in m h)) % all)) (sym all_long)));
      }
