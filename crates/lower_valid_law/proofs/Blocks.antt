-- The blocks into which lines are cut, beside the lines.
use Rattle.std.proofs.Common.{◌≡◌, ℕ, zero, suc, ◌+◌, ◌<◌, ◌≤◌, max, Bool, true, false, List, [], ◌∷◌, ◌++◌, map, length, Some, refl, sym, ap, ◌∙◌, subst, arith}
use Rattle.std.specs.Prelude.{slice_get}
use Rattle.std.proofs.lemmas.Bool.{false≢true, eq-eqb}
use Rattle.mid_blocks.specs.declared.code.MidStep.{MidStep}
use Rattle.mid_blocks.specs.declared.code.MidEnd.{MidEnd}
use Rattle.mid_blocks.specs.declared.code.MidEnd.TheVariants.{Jump, Branch, Call, Return}
use Rattle.mid_blocks.specs.declared.code.MidBlock.{MidBlock}
use Rattle.mid_blocks.specs.Lines.{Line, Step, End, block_lines}
use Rattle.mid_blocks.specs.Valid.{target, falls_on, is_call}
use Rattle.lower_rules.specs.Functions.{cut}
use Rattle.lower_valid_law.proofs.Clean.{line_top, top, line_odd, odds}
use Rattle.lower_valid_law.proofs.Aims.{one_if, ends, end_names, named, end_calls, behind}

pub count_blocks : (steps : List MidStep) (ls : List Line) → length (cut steps ls) ≡ ends ls
count_blocks steps [] = refl
count_blocks steps (Step s ∷ ls) = count_blocks (steps ++ s ∷ []) ls
count_blocks steps (End e ∷ ls) = omega (arith, count_blocks [] ls)

none_some : {A : Type 0} (n : ℕ) (x : A) → slice_get [] n ≡ Some x → ⊥
none_some n x h = cc

-- ---- where the ends of blocks lead

end_named : (e : MidEnd) (y : ℕ) → target e ≡ Some y → end_names y e ≡ 1
end_named (Jump to) y h = let same : to ≡ y = cc in ap one_if (eq-eqb to y same)
end_named (Branch t w to) y h = let same : to ≡ y = cc in ap one_if (eq-eqb to y same)
end_named (Call f args r) y h = cc
end_named (Return r) y h = cc

pub block_named : (y k : ℕ) (steps : List MidStep) (ls : List Line) (b : MidBlock) → slice_get (cut steps ls) k ≡ Some b → target b.end ≡ Some y → 1 ≤ named y ls
block_named y k steps [] b h t = absurd (none_some k b h)
block_named y k steps (Step s ∷ ls) b h t = block_named y k (steps ++ s ∷ []) ls b h t
block_named y zero steps (End e ∷ ls) b h t = let same : record { steps = steps; end = e } ≡ b = cc in omega (arith, end_named e y (ap (λ (x : MidBlock). target x.end) same ∙ t))
block_named y (suc k) steps (End e ∷ ls) b h t = omega (arith, block_named y k [] ls b h t)

end_called : (e : MidEnd) (y n : ℕ) → is_call e ≡ true → y ≡ n + 1 → end_calls y n e ≡ 1
end_called (Jump to) y n h is = absurd (false≢true h)
end_called (Branch t w to) y n h is = absurd (false≢true h)
end_called (Call f args r) y n h is = ap one_if (eq-eqb (n + 1) y (sym is))
end_called (Return r) y n h is = absurd (false≢true h)

pub block_calls : (y n k : ℕ) (steps : List MidStep) (ls : List Line) (b : MidBlock) → slice_get (cut steps ls) k ≡ Some b → is_call b.end ≡ true → y ≡ n + k + 1 → 1 ≤ behind y n ls
block_calls y n k steps [] b h t is = absurd (none_some k b h)
block_calls y n k steps (Step s ∷ ls) b h t is = block_calls y n k (steps ++ s ∷ []) ls b h t is
block_calls y n zero steps (End e ∷ ls) b h t is = let same : record { steps = steps; end = e } ≡ b = cc in omega (arith, end_called e y n (ap (λ (x : MidBlock). is_call x.end) same ∙ t) (omega (arith, is)))
block_calls y n (suc k) steps (End e ∷ ls) b h t is = omega (arith, block_calls y (n + 1) k [] ls b h t (omega (arith, is)))

-- a block that goes on at the next one isn't the last
pub block_next : (k : ℕ) (steps : List MidStep) (xs : List Line) (e : MidEnd) (b : MidBlock) → falls_on e ≡ false → slice_get (cut steps (xs ++ End e ∷ [])) k ≡ Some b → falls_on b.end ≡ true → k + 1 < length (cut steps (xs ++ End e ∷ []))
block_next zero steps [] e b stops h t = let same : record { steps = steps; end = e } ≡ b = cc in absurd (false≢true (sym stops ∙ ap (λ (x : MidBlock). falls_on x.end) same ∙ t))
block_next (suc k) steps [] e b stops h t = absurd (none_some k b h)
block_next k steps (Step s ∷ xs) e b stops h t = block_next k (steps ++ s ∷ []) xs e b stops h t
block_next zero steps (End x ∷ xs) e b stops h t = omega (arith, some (xs) [])
  where
    some : (ys : List Line) (st : List MidStep) → 1 ≤ length (cut st (ys ++ End e ∷ []))
    some [] st = omega arith
    some (Step s ∷ ys) st = some ys (st ++ s ∷ [])
    some (End z ∷ ys) st = omega arith
block_next (suc k) steps (End x ∷ xs) e b stops h t = omega (arith, block_next k [] xs e b stops h t)

-- ---- bounds of lines, and of blocks

top_steps : (steps : List MidStep) (s : MidStep) (ls : List Line) → top (map Step (steps ++ s ∷ []) ++ ls) ≡ top (map Step steps ++ (Step s ∷ ls))
top_steps [] s ls = refl
top_steps (x ∷ steps) s ls = ap (λ n. max (line_top (Step x)) n) (top_steps steps s ls)

top_front : (xs ys : List Line) (e : MidEnd) → (top (xs ++ End e ∷ []) ≤ top (xs ++ (End e ∷ ys))) × (top ys ≤ top (xs ++ (End e ∷ ys)))
top_front [] ys e = (omega arith, omega arith)
top_front (x ∷ xs) ys e = let a = (top_front xs ys e).0 in let b = (top_front xs ys e).1 in (omega (arith, a), omega (arith, b))

pub block_top : (k : ℕ) (steps : List MidStep) (ls : List Line) (b : MidBlock) → slice_get (cut steps ls) k ≡ Some b → top (block_lines b) ≤ top (map Step steps ++ ls)
block_top k steps [] b h = absurd (none_some k b h)
block_top k steps (Step s ∷ ls) b h = omega (arith, top_steps steps s ls, block_top k (steps ++ s ∷ []) ls b h)
block_top zero steps (End e ∷ ls) b h =
    let same : record { steps = steps; end = e } ≡ b = cc in
    subst (λ (x : MidBlock). top (block_lines x) ≤ top (map Step steps ++ (End e ∷ ls))) same (top_front (map Step steps) ls e).0
block_top (suc k) steps (End e ∷ ls) b h = let a = (top_front (map Step steps) ls e).1 in omega (arith, block_top k [] ls b h, a)

module _ (globals : ℕ) (fits : ℕ → ℕ → Bool) where
  abbrev odd : List Line → ℕ
  odd ls = odds globals fits ls

  pub odds-append : (xs ys : List Line) → odds globals fits (xs ++ ys) ≡ odds globals fits xs + odds globals fits ys
  odds-append [] ys = omega arith
  odds-append (x ∷ xs) ys = omega (arith, odds-append xs ys)

  odd_steps : (steps : List MidStep) (s : MidStep) (ls : List Line) → odd (map Step (steps ++ s ∷ []) ++ ls) ≡ odd (map Step steps ++ (Step s ∷ ls))
  odd_steps [] s ls = refl
  odd_steps (x ∷ steps) s ls = ap (λ n. line_odd globals fits (Step x) + n) (odd_steps steps s ls)

  pub block_odd : (k : ℕ) (steps : List MidStep) (ls : List Line) (b : MidBlock) → slice_get (cut steps ls) k ≡ Some b → odds globals fits (block_lines b) ≤ odds globals fits (map Step steps ++ ls)
  block_odd k steps [] b h = absurd (none_some k b h)
  block_odd k steps (Step s ∷ ls) b h = omega (arith, odd_steps steps s ls, block_odd k (steps ++ s ∷ []) ls b h)
  block_odd zero steps (End e ∷ ls) b h =
      let same : record { steps = steps; end = e } ≡ b = cc in
      subst (λ (x : MidBlock). odd (block_lines x) ≤ odd (map Step steps ++ (End e ∷ ls))) same (omega (arith, odds-append (map Step steps) (End e ∷ []), odds-append (map Step steps) (End e ∷ ls)))
  block_odd (suc k) steps (End e ∷ ls) b h = omega (arith, block_odd k [] ls b h, odds-append (map Step steps) (End e ∷ ls))

  -- the odd lines of some blocks
  abbrev pub blocks_odd : List MidBlock → ℕ
  blocks_odd [] = 0
  blocks_odd (b ∷ bs) = odds globals fits (block_lines b) + blocks_odd bs

  pub cut_odd : (steps : List MidStep) (ls : List Line) → blocks_odd (cut steps ls) ≤ odds globals fits (map Step steps ++ ls)
  cut_odd steps [] = omega arith
  cut_odd steps (Step s ∷ ls) = omega (arith, odd_steps steps s ls, cut_odd (steps ++ s ∷ []) ls)
  cut_odd steps (End e ∷ ls) = omega (arith, cut_odd [] ls, odds-append (map Step steps) (End e ∷ []), odds-append (map Step steps) (End e ∷ ls))
