-- The numbers that a made program follows from, by a linear congruence.
use Rattle.std.specs.Prelude.{ℕ, zero, suc, ◌+◌, ◌*◌, ◌%◌, ◌==◌, if◌then◌else◌}
use Rattle.program_maker.specs.declared.draws.Numbers.{Numbers}

-- The start for a number.
abbrev pub start : ℕ → ℕ
start number = number % 65537

-- The number behind another.
abbrev pub next : ℕ → ℕ
next x = (75 * x + 74) % 65537

-- The number behind so many draws.
abbrev pub draw : ℕ → ℕ → ℕ
draw x zero = x
draw x (suc n) = next (draw x n)

-- The draw of a number, counted from 1, modulo another.
abbrev pub pick : (x n choices : ℕ) → ℕ
pick x n choices = draw x n % choices

-- Operators 0 to 5 are + - * & | ^.
abbrev pub operator : ℕ → ℕ
operator n =
    if n == 0 then 43 else (
    if n == 1 then 45 else (
    if n == 2 then 42 else (
    if n == 3 then 38 else (
    if n == 4 then 124 else 94))))

-- The numbers of a function that are drawn next, in their order.
abbrev pub numbers_after : ℕ → Numbers
numbers_after x = record {
  first = pick x 1 1000;
  turns = pick x 2 7 + 2;
  inner = operator (pick x 3 6);
  outer = operator (pick x 4 6);
  other = operator (pick x 5 6);
  constant = pick x 6 1000;
  stored = operator (pick x 7 6);
  divisor = pick x 8 8 + 2;
}

-- The numbers of the function of an index: eight draws each, in the order of the functions.
abbrev pub numbers_of : (number k : ℕ) → Numbers
numbers_of number k = numbers_after (draw (start number) (8 * k))
