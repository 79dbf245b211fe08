-- A text that grows by one piece after another, and draws after draws.
use Rattle.std.proofs.Common.{◌≡◌, ℕ, zero, suc, ◌+◌, ◌*◌, List, ◌++◌, ap, refl, sym, ◌∙◌, arith, append_assoc, add-zero, add-suc, add-one}
use Rattle.program_maker.specs.Draws.{next, draw}
use Rattle.program_maker.specs.Text.{functions_text, function_text, outs_text, out_line}

-- two pieces are one
pub grown : (old mid new a rest : List ℕ) → mid ≡ old ++ a → new ≡ mid ++ rest → new ≡ old ++ (a ++ rest)
grown old mid new a rest e f = f ∙ (ap (λ (l : List ℕ). l ++ rest) e ∙ append_assoc old a rest)

-- draws behind draws
pub draw_more : (x m n : ℕ) → draw x (m + n) ≡ draw (draw x m) n
draw_more x m zero = ap (λ (k : ℕ). draw x k) (add-zero m)
draw_more x m (suc n) = ap (λ (k : ℕ). draw x k) (add-suc m n) ∙ ap next (draw_more x m n)

pub eight_more : (x k : ℕ) → draw (draw x (8 * k)) 8 ≡ draw x (8 * (k + 1))
eight_more x k =
    let e : 8 * k + 8 ≡ 8 * (k + 1) = omega arith in
    sym (draw_more x (8 * k) 8) ∙ ap (λ (n : ℕ). draw x n) e

-- one function more
pub one_function : (number k : ℕ) → functions_text number (k + 1) ≡ functions_text number k ++ function_text number k
one_function number k = ap (λ (n : ℕ). functions_text number n) (add-one k)
