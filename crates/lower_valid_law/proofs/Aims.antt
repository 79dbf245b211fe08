-- Where the jumps of some lines go: whether they name a block, and whether a block stands behind a call.
use Rattle.std.proofs.Common.{◌≡◌, ◌≢◌, ℕ, ◌+◌, ◌<◌, ◌≤◌, min, Bool, true, false, List, [], ◌∷◌, ◌++◌, refl, sym, ap, ◌∙◌, if◌then◌else◌, ◌==◌, arith, ⊎_elim}
use Rattle.std.proofs.lemmas.Bool.{eqb-true, eqb-false, cases_lt, ne_eqb}
use Rattle.mid_blocks.specs.declared.code.MidEnd.{MidEnd}
use Rattle.mid_blocks.specs.declared.code.MidEnd.TheVariants.{Jump, Branch, Call, Return}
use Rattle.mid_blocks.specs.Lines.{Line, Step, End}

abbrev pub one_if : Bool → ℕ
one_if b = if b then 1 else 0

-- how many ends there are
abbrev pub ends : List Line → ℕ
ends [] = 0
ends (Step step ∷ lines) = ends lines
ends (End end ∷ lines) = 1 + ends lines

-- whether an end names the block y
abbrev pub end_names : ℕ → MidEnd → ℕ
end_names y (Jump to) = one_if (to == y)
end_names y (Branch test when to) = one_if (to == y)
end_names y (Call function args result) = 0
end_names y (Return from) = 0

-- how many ends name the block y
abbrev pub named : ℕ → List Line → ℕ
named y [] = 0
named y (Step step ∷ lines) = named y lines
named y (End end ∷ lines) = end_names y end + named y lines

-- whether the end of the block n is a call and the next block is y
abbrev pub end_calls : ℕ → ℕ → MidEnd → ℕ
end_calls y n (Jump to) = 0
end_calls y n (Branch test when to) = 0
end_calls y n (Call function args result) = one_if (n + 1 == y)
end_calls y n (Return from) = 0

-- how many of the blocks from n on end by a call behind which y stands
abbrev pub behind : ℕ → ℕ → List Line → ℕ
behind y n [] = 0
behind y n (Step step ∷ lines) = behind y n lines
behind y n (End end ∷ lines) = end_calls y n end + behind y (n + 1) lines

pub ends-append : (xs ys : List Line) → ends (xs ++ ys) ≡ ends xs + ends ys
ends-append [] ys = omega arith
ends-append (Step s ∷ xs) ys = ends-append xs ys
ends-append (End e ∷ xs) ys = omega (arith, ends-append xs ys)

pub named-append : (y : ℕ) (xs ys : List Line) → named y (xs ++ ys) ≡ named y xs + named y ys
named-append y [] ys = omega arith
named-append y (Step s ∷ xs) ys = named-append y xs ys
named-append y (End e ∷ xs) ys = omega (arith, named-append y xs ys)

pub behind-append : (y n m : ℕ) (xs ys : List Line) → n + ends xs ≡ m → behind y n (xs ++ ys) ≡ behind y n xs + behind y m ys
behind-append y n m [] ys e = let same : n ≡ m = omega (arith, e) in ap (λ k. behind y k ys) same ∙ omega arith
behind-append y n m (Step s ∷ xs) ys e = behind-append y n m xs ys e
behind-append y n m (End x ∷ xs) ys e = omega (arith, behind-append y (n + 1) m xs ys (omega (arith, e)))

pub other : (a y : ℕ) → a ≢ y → one_if (a == y) ≡ 0
other a y ne = ap one_if (ne_eqb a y ne)

call_out : (y n : ℕ) (e : MidEnd) → n + 1 ≢ y → end_calls y n e ≡ 0
call_out y n (Jump to) ne = refl
call_out y n (Branch test when to) ne = refl
call_out y n (Call function args result) ne = other (n + 1) y ne
call_out y n (Return from) ne = refl

-- no call stands before a block outside
pub behind_below : (y n : ℕ) (ls : List Line) → y ≤ n → behind y n ls ≡ 0
behind_below y n [] le = refl
behind_below y n (Step s ∷ ls) le = behind_below y n ls le
behind_below y n (End e ∷ ls) le = omega (arith, call_out y n e (λ h. absurd (omega (arith, h, le))), behind_below y (n + 1) ls (omega (arith, le)))

pub behind_above : (y n : ℕ) (ls : List Line) → n + ends ls < y → behind y n ls ≡ 0
behind_above y n [] lt = refl
behind_above y n (Step s ∷ ls) lt = behind_above y n ls lt
behind_above y n (End e ∷ ls) lt = omega (arith, call_out y n e (λ h. absurd (omega (arith, h, lt))), behind_above y (n + 1) ls (omega (arith, lt)))

-- lines that begin in the block n, have m ends and name no block outside but where Out fails; and where Out holds they don't name a block behind
-- a call of theirs
pub record Seg (Out : Type 0) (y n m : ℕ) (lines : List Line) : Type 0 where
  pub ends_are : ends lines ≡ m
  pub below : Out → y ≤ n → named y lines ≡ 0
  pub above : Out → n + m < y → named y lines ≡ 0
  pub apart : Out → min (named y lines) (behind y n lines) ≡ 0

pub seg_more : (A B : Type 0) (y n m : ℕ) (ls : List Line) → (B → A) → Seg A y n m ls → Seg B y n m ls
seg_more A B y n m ls f s = record { ends_are = s.ends_are; below = λ o. s.below (f o); above = λ o. s.above (f o); apart = λ o. s.apart (f o) }

pub seg_none : (O : Type 0) (y n : ℕ) → Seg O y n 0 []
seg_none O y n = record { ends_are = refl; below = λ o le. refl; above = λ o lt. refl; apart = λ o. refl }

-- lines without ends
pub quiet : (y : ℕ) (xs : List Line) → ends xs ≡ 0 → named y xs ≡ 0
quiet y [] h = refl
quiet y (Step s ∷ xs) h = quiet y xs h
quiet y (End x ∷ xs) h = absurd (omega (arith, h))

pub seg_steps : (O : Type 0) (y n : ℕ) (ls : List Line) → ends ls ≡ 0 → Seg O y n 0 ls
seg_steps O y n ls e = record { ends_are = e; below = λ o le. quiet y ls e; above = λ o lt. quiet y ls e; apart = λ o. omega (arith, quiet y ls e) }

pub seg_jump : (O : Type 0) (y n to : ℕ) → (O → to ≢ y) → Seg O y n 1 (End (Jump to) ∷ [])
seg_jump O y n to f = record { ends_are = refl; below = λ o le. omega (arith, other to y (f o)); above = λ o lt. omega (arith, other to y (f o)); apart = λ o. omega (arith, other to y (f o)) }

pub seg_branch : (O : Type 0) (y n t to : ℕ) (w : Bool) → (O → to ≢ y) → Seg O y n 1 (End (Branch t w to) ∷ [])
seg_branch O y n t to w f = record { ends_are = refl; below = λ o le. omega (arith, other to y (f o)); above = λ o lt. omega (arith, other to y (f o)); apart = λ o. omega (arith, other to y (f o)) }

pub seg_call : (O : Type 0) (y n function : ℕ) (args : List ℕ) (result : _) → Seg O y n 1 (End (Call function args result) ∷ [])
seg_call O y n function args result = record { ends_are = refl; below = λ o le. refl; above = λ o lt. refl; apart = λ o. omega arith }

pub seg_return : (O : Type 0) (y n : ℕ) (r : _) → Seg O y n 1 (End (Return r) ∷ [])
seg_return O y n r = record { ends_are = refl; below = λ o le. refl; above = λ o lt. refl; apart = λ o. omega arith }

pub seg_join : (O : Type 0) (y n k m1 m2 m : ℕ) (xs ys : List Line) → n + m1 ≡ k → m1 + m2 ≡ m → Seg O y n m1 xs → Seg O y k m2 ys → Seg O y n m (xs ++ ys)
seg_join O y n k m1 m2 m xs ys at all p q =
    let e = ends-append xs ys in
    let nm = named-append y xs ys in
    let bh = behind-append y n k xs ys (omega (arith, at, p.ends_are)) in
    record {
      ends_are = omega (arith, e, all, p.ends_are, q.ends_are);
      below = λ o le. omega (arith, nm, p.below o le, q.below o (omega (arith, le, at)));
      above = λ o lt. omega (arith, nm, p.above o (omega (arith, lt, all)), q.above o (omega (arith, lt, all, at)));
      apart = λ o. ⊎_elim
          (λ past. let a = p.above o (omega (arith, past, at)) in let b = behind_above y n xs (omega (arith, past, at, p.ends_are)) in omega (arith, nm, bh, a, b, q.apart o))
          (λ up. let a = q.below o up in let b = behind_below y k ys up in omega (arith, nm, bh, a, b, p.apart o))
          (cases_lt k y);
    }

-- a step more in front
pub seg_step : (O : Type 0) (y n m : ℕ) (s : _) (ls : List Line) → Seg O y n m ls → Seg O y n m (Step s ∷ ls)
seg_step O y n m s ls p = record { ends_are = p.ends_are; below = p.below; above = p.above; apart = p.apart }

-- a jump in front
pub seg_jump_on : (O : Type 0) (y n k m to : ℕ) (ls : List Line) → n + 1 ≡ k → (O → to ≢ y) → Seg O y k m ls → Seg O y n (1 + m) (End (Jump to) ∷ ls)
seg_jump_on O y n k m to ls e f p = seg_join O y n k 1 m (1 + m) (End (Jump to) ∷ []) ls e refl (seg_jump O y n to f) p

-- a block inside that no call stands before may be named
pub seg_inside : (O : Type 0) (y n m j : ℕ) (ls : List Line) → n < j → j ≤ n + m → (y ≡ j → behind y n ls ≡ 0) → Seg (O × (j ≢ y)) y n m ls → Seg O y n m ls
seg_inside O y n m j ls lo hi free p = by (j == y) refl
  where
    by : (b : Bool) → (j == y) ≡ b → Seg O y n m ls
    by true is = let e : j ≡ y = eqb-true j y is in record {
      ends_are = p.ends_are;
      below = λ o le. absurd (omega (arith, le, lo, e));
      above = λ o lt. absurd (omega (arith, lt, hi, e));
      apart = λ o. omega (arith, free (sym e));
    }
    by false is = let ne : j ≢ y = eqb-false j y is in seg_more (O × (j ≢ y)) O y n m ls (λ o. (o, ne)) p

-- the last end is no call
pub behind_jump : (y n m to : ℕ) (xs : List Line) → ends xs ≡ m → y ≡ n + m + 1 → behind y n (xs ++ End (Jump to) ∷ []) ≡ 0
behind_jump y n m to xs e is = omega (arith, behind-append y n (n + m) xs (End (Jump to) ∷ []) (omega (arith, e)), behind_above y n xs (omega (arith, is, e)))

pub behind_branch : (y n m t to : ℕ) (w : Bool) (xs : List Line) → ends xs ≡ m → y ≡ n + m + 1 → behind y n (xs ++ End (Branch t w to) ∷ []) ≡ 0
behind_branch y n m t to w xs e is = omega (arith, behind-append y n (n + m) xs (End (Branch t w to) ∷ []) (omega (arith, e)), behind_above y n xs (omega (arith, is, e)))

-- where the first lines end before a block without a call, so do all
pub behind_first : (y n k m1 : ℕ) (xs ys : List Line) → n + m1 ≡ k → ends xs ≡ m1 → y ≡ k → behind y n xs ≡ 0 → behind y n (xs ++ ys) ≡ 0
behind_first y n k m1 xs ys at e is h = omega (arith, behind-append y n k xs ys (omega (arith, at, e)), h, behind_below y k ys (omega (arith, is)))

-- where it stands behind the first lines, only the others count
pub behind_rest : (y n k m1 : ℕ) (xs ys : List Line) → n + m1 ≡ k → ends xs ≡ m1 → k < y → behind y k ys ≡ 0 → behind y n (xs ++ ys) ≡ 0
behind_rest y n k m1 xs ys at e past h = omega (arith, behind-append y n k xs ys (omega (arith, at, e)), behind_above y n xs (omega (arith, past, at, e)), h)

-- behind a jump that follows the first lines no call stands
pub behind_middle : (y n m1 to : ℕ) (xs ys : List Line) → ends xs ≡ m1 → y ≡ n + m1 + 1 → behind y n (xs ++ (End (Jump to) ∷ ys)) ≡ 0
behind_middle y n m1 to xs ys e is = omega (arith, behind-append y n (n + m1) xs (End (Jump to) ∷ ys) (omega (arith, e)), behind_above y n xs (omega (arith, is, e)), behind_below y (n + m1 + 1) ys (omega (arith, is)))
