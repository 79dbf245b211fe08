-- Which blocks the lines from a block on may lead to: the blocks that they begin, but those directly behind a jump that leaves a statement.
use Rattle.std.proofs.Common.{◌≡◌, ◌≢◌, ℕ, zero, suc, ◌+◌, ◌<◌, ◌≤◌, Bool, true, List, [], ◌∷◌, ◌++◌, length, Some, refl, sym, ap, ◌∙◌, ◌==◌, arith, ⊎_elim}
use Rattle.std.specs.Prelude.{slice_get}
use Rattle.std.proofs.lemmas.Bool.{eq-eqb, cases_lt, false≢true}
use Rattle.mid_blocks.specs.declared.code.MidStep.{MidStep}
use Rattle.mid_blocks.specs.declared.code.MidEnd.{MidEnd}
use Rattle.mid_blocks.specs.declared.code.MidEnd.TheVariants.{Jump, Branch, Call, Return}
use Rattle.mid_blocks.specs.declared.code.MidBlock.{MidBlock}
use Rattle.mid_blocks.specs.Lines.{Line, Step, End}
use Rattle.mid_blocks.specs.Valid.{falls_on}
use Rattle.lower_rules.specs.Functions.{cut}
use Rattle.lower_valid_law.proofs.Aims.{one_if, ends, named, ends-append, named-append, quiet, Seg, other}

-- how often a number stands in a list
abbrev pub count : ℕ → List ℕ → ℕ
count y [] = 0
count y (x ∷ xs) = one_if (x == y) + count y xs

pub count-append : (y : ℕ) (xs ys : List ℕ) → count y (xs ++ ys) ≡ count y xs + count y ys
count-append y [] ys = omega arith
count-append y (x ∷ xs) ys = omega (arith, count-append y xs ys)

pub count_no : (x y : ℕ) → one_if (x == y) ≡ 0 → x ≢ y
count_no x y h e = absurd (omega (arith, h, ap one_if (eq-eqb x y e)))

-- so many numbers behind n
abbrev pub upto : ℕ → ℕ → List ℕ
upto n zero = []
upto n (suc k) = (n + 1) ∷ upto (n + 1) k

pub upto_length : (n k : ℕ) → length (upto n k) ≡ k
upto_length n zero = refl
upto_length n (suc k) = omega (arith, upto_length (n + 1) k)

-- what isn't among them is not within
pub upto_out : (y n k : ℕ) → count y (upto n k) ≡ 0 → n < y → n + k < y
upto_out y n zero h lt = omega (arith, lt)
upto_out y n (suc k) h lt =
    let ne = count_no (n + 1) y (omega (arith, h)) in
    let past : n + 1 < y = ⊎_elim (λ l. l) (λ le. absurd (ne (omega (arith, le, lt)))) (cases_lt (n + 1) y) in
    omega (arith, upto_out y (n + 1) k (omega (arith, h)) past)

-- whether the end of the block n goes on at the next one, and this is y
abbrev pub end_falls : ℕ → ℕ → MidEnd → ℕ
end_falls y n (Jump to) = 0
end_falls y n (Branch test when to) = one_if (n + 1 == y)
end_falls y n (Call function args result) = one_if (n + 1 == y)
end_falls y n (Return from) = 0

abbrev pub fallen : ℕ → ℕ → List Line → ℕ
fallen y n [] = 0
fallen y n (Step step ∷ lines) = fallen y n lines
fallen y n (End end ∷ lines) = end_falls y n end + fallen y (n + 1) lines

pub fallen-append : (y n m : ℕ) (xs ys : List Line) → n + ends xs ≡ m → fallen y n (xs ++ ys) ≡ fallen y n xs + fallen y m ys
fallen-append y n m [] ys e = let same : n ≡ m = omega (arith, e) in ap (λ k. fallen y k ys) same ∙ omega arith
fallen-append y n m (Step s ∷ xs) ys e = fallen-append y n m xs ys e
fallen-append y n m (End x ∷ xs) ys e = omega (arith, fallen-append y (n + 1) m xs ys (omega (arith, e)))

fall_out : (y n : ℕ) (e : MidEnd) → n + 1 ≢ y → end_falls y n e ≡ 0
fall_out y n (Jump to) ne = refl
fall_out y n (Branch test when to) ne = other (n + 1) y ne
fall_out y n (Call function args result) ne = other (n + 1) y ne
fall_out y n (Return from) ne = refl

fallen_below : (y n : ℕ) (ls : List Line) → y ≤ n → fallen y n ls ≡ 0
fallen_below y n [] le = refl
fallen_below y n (Step s ∷ ls) le = fallen_below y n ls le
fallen_below y n (End e ∷ ls) le = omega (arith, fall_out y n e (λ h. absurd (omega (arith, h, le))), fallen_below y (n + 1) ls (omega (arith, le)))

fallen_above : (y n : ℕ) (ls : List Line) → n + ends ls < y → fallen y n ls ≡ 0
fallen_above y n [] lt = refl
fallen_above y n (Step s ∷ ls) lt = fallen_above y n ls lt
fallen_above y n (End e ∷ ls) lt = omega (arith, fall_out y n e (λ h. absurd (omega (arith, h, lt))), fallen_above y (n + 1) ls (omega (arith, lt)))

end_fallen : (e : MidEnd) (y n : ℕ) → falls_on e ≡ true → y ≡ n + 1 → end_falls y n e ≡ 1
end_fallen (Jump to) y n h is = absurd (false≢true h)
end_fallen (Branch t w to) y n h is = ap one_if (eq-eqb (n + 1) y (sym is))
end_fallen (Call f args r) y n h is = ap one_if (eq-eqb (n + 1) y (sym is))
end_fallen (Return r) y n h is = absurd (false≢true h)

none_some : {A : Type 0} (n : ℕ) (x : A) → slice_get [] n ≡ Some x → ⊥
none_some n x h = cc

pub block_falls : (y n k : ℕ) (steps : List MidStep) (ls : List Line) (b : MidBlock) → slice_get (cut steps ls) k ≡ Some b → falls_on b.end ≡ true → y ≡ n + k + 1 → 1 ≤ fallen y n ls
block_falls y n k steps [] b h t is = absurd (none_some k b h)
block_falls y n k steps (Step s ∷ ls) b h t is = block_falls y n k (steps ++ s ∷ []) ls b h t is
block_falls y n zero steps (End e ∷ ls) b h t is = let same : record { steps = steps; end = e } ≡ b = cc in omega (arith, end_fallen e y n (ap (λ (x : MidBlock). falls_on x.end) same ∙ t) (omega (arith, is)))
block_falls y n (suc k) steps (End e ∷ ls) b h t is = omega (arith, block_falls y (n + 1) k [] ls b h t (omega (arith, is)))

-- lines from the block n on with m ends, that lead only to the blocks of a list, and where Out fails
pub record Reach (Out : ℕ → Type 0) (n m : ℕ) (starts : List ℕ) (lines : List Line) : Type 0 where
  pub ends_are : ends lines ≡ m
  pub named_in : (y : ℕ) → Out y → count y starts ≡ 0 → named y lines ≡ 0
  pub fallen_in : (y : ℕ) → count y starts ≡ 0 → fallen y n lines ≡ 0

pub reach_more : (A B : ℕ → Type 0) (n m : ℕ) (st : List ℕ) (ls : List Line) → ((y : ℕ) → B y → A y) → Reach A n m st ls → Reach B n m st ls
reach_more A B n m st ls f r = record { ends_are = r.ends_are; named_in = λ y o c. r.named_in y (f y o) c; fallen_in = r.fallen_in }

pub reach_none : (O : ℕ → Type 0) (n : ℕ) → Reach O n 0 [] []
reach_none O n = record { ends_are = refl; named_in = λ y o c. refl; fallen_in = λ y c. refl }

pub reach_steps : (O : ℕ → Type 0) (n : ℕ) (ls : List Line) → ends ls ≡ 0 → Reach O n 0 [] ls
reach_steps O n ls e = record { ends_are = e; named_in = λ y o c. quiet y ls e; fallen_in = λ y c. ⊎_elim (λ lt. fallen_above y n ls (omega (arith, e, lt))) (λ le. fallen_below y n ls le) (cases_lt n y) }

pub reach_jump : (O : ℕ → Type 0) (n to : ℕ) → ((y : ℕ) → O y → to ≢ y) → Reach O n 1 [] (End (Jump to) ∷ [])
reach_jump O n to f = record { ends_are = refl; named_in = λ y o c. omega (arith, other to y (f y o)); fallen_in = λ y c. refl }

pub reach_return : (O : ℕ → Type 0) (n : ℕ) (r : _) → Reach O n 1 [] (End (Return r) ∷ [])
reach_return O n r = record { ends_are = refl; named_in = λ y o c. refl; fallen_in = λ y c. refl }

pub reach_branch : (O : ℕ → Type 0) (n t to : ℕ) (w : Bool) → ((y : ℕ) → O y → to ≢ y) → Reach O n 1 ((n + 1) ∷ []) (End (Branch t w to) ∷ [])
reach_branch O n t to w f = record { ends_are = refl; named_in = λ y o c. omega (arith, other to y (f y o)); fallen_in = λ y c. omega (arith, c) }

pub reach_join : (O : ℕ → Type 0) (n k m1 m2 m : ℕ) (s1 s2 : List ℕ) (xs ys : List Line) → n + m1 ≡ k → m1 + m2 ≡ m → Reach O n m1 s1 xs → Reach O k m2 s2 ys → Reach O n m (s1 ++ s2) (xs ++ ys)
reach_join O n k m1 m2 m s1 s2 xs ys at all p q = record {
  ends_are = omega (arith, ends-append xs ys, p.ends_are, q.ends_are, all);
  named_in = λ y o c. let e = count-append y s1 s2 in omega (arith, named-append y xs ys, p.named_in y o (omega (arith, c, e)), q.named_in y o (omega (arith, c, e)));
  fallen_in = λ y c. let e = count-append y s1 s2 in omega (arith, fallen-append y n k xs ys (omega (arith, at, p.ends_are)), p.fallen_in y (omega (arith, c, e)), q.fallen_in y (omega (arith, c, e)));
}

-- a step in front
pub reach_step : (O : ℕ → Type 0) (n m : ℕ) (st : List ℕ) (s : MidStep) (ls : List Line) → Reach O n m st ls → Reach O n m st (Step s ∷ ls)
reach_step O n m st s ls r = record { ends_are = r.ends_are; named_in = r.named_in; fallen_in = r.fallen_in }

-- one block more that may be named
pub reach_inside : (O : ℕ → Type 0) (n m j : ℕ) (st : List ℕ) (ls : List Line) → Reach (λ y. O y × (j ≢ y)) n m st ls → Reach O n m (j ∷ st) ls
reach_inside O n m j st ls r = record {
  ends_are = r.ends_are;
  named_in = λ y o c. r.named_in y (o, count_no j y (omega (arith, c))) (omega (arith, c));
  fallen_in = λ y c. r.fallen_in y (omega (arith, c));
}

-- lines whose jumps stay within may lead to all their blocks
pub reach_seg : (O : ℕ → Type 0) (n m : ℕ) (ls : List Line) → ((y : ℕ) → Seg (O y) y n m ls) → Reach O n m (upto n m) ls
reach_seg O n m ls s = record {
  ends_are = (s 0).ends_are;
  named_in = λ y o c. ⊎_elim (λ lt. (s y).above o (upto_out y n m c lt)) (λ le. (s y).below o le) (cases_lt n y);
  fallen_in = λ y c. ⊎_elim (λ lt. fallen_above y n ls (omega (arith, (s 0).ends_are, upto_out y n m c lt))) (λ le. fallen_below y n ls le) (cases_lt n y);
}

-- more blocks that may be named
pub reach_inside_all : (O : ℕ → Type 0) (n m : ℕ) (js st : List ℕ) (ls : List Line) → Reach (λ y. O y × (count y js ≡ 0)) n m st ls → Reach O n m (js ++ st) ls
reach_inside_all O n m js st ls r = record {
  ends_are = r.ends_are;
  named_in = λ y o c. let e = count-append y js st in r.named_in y (o, omega (arith, c, e)) (omega (arith, c, e));
  fallen_in = λ y c. let e = count-append y js st in r.fallen_in y (omega (arith, c, e));
}
