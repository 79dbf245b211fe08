-- Blocks that call nothing still call nothing where some of them are left out and the others get new numbers.
use Rattle.std.proofs.Common.{◌≡◌, ℕ, zero, suc, Bool, true, false, List, [], ◌∷◌, map, Some, refl, ◌∙◌, arith}
use Rattle.std.specs.Prelude.{slice_get}
use Rattle.std.specs.List.{All}
use Rattle.mid_blocks.specs.declared.code.MidEnd.{MidEnd}
use Rattle.mid_blocks.specs.declared.code.MidEnd.TheVariants.{Jump, Branch, Call, Return}
use Rattle.mid_blocks.specs.declared.code.MidBlock.{MidBlock}
use Rattle.mid_blocks.specs.Valid.{is_call}
use Rattle.mid_blocks.specs.Renumbered.{Numbers, renumbered_end}
use Rattle.mid_blocks.specs.Pruned.{marked, renumbered_block}

-- no block ends by a call
abbrev pub CallNothing : List MidBlock → Type 0
CallNothing [] = Unit {0}
CallNothing (b ∷ bs) = (is_call b.end ≡ false) × CallNothing bs

pub at_each : (bs : List MidBlock) → ((n : ℕ) (b : MidBlock) → slice_get bs n ≡ Some b → is_call b.end ≡ false) → CallNothing bs
at_each [] h = tt
at_each (b ∷ bs) h = (h 0 b refl, at_each bs (λ n c e. h (suc n) c e))

pub to_all : (bs : List MidBlock) → CallNothing bs → All (λ b. is_call b.end ≡ false) bs
to_all [] h k d below = absurd (omega (arith, below))
to_all (b ∷ bs) h zero d below = h.0
to_all (b ∷ bs) h (suc k) d below = to_all bs h.1 k d (omega (arith, below))

marked_none : (ms : List Bool) (bs : List MidBlock) → CallNothing bs → CallNothing (marked ms bs)
marked_none [] bs h = tt
marked_none (m ∷ ms) [] h = tt
marked_none (true ∷ ms) (b ∷ bs) h = (h.0, marked_none ms bs h.1)
marked_none (false ∷ ms) (b ∷ bs) h = marked_none ms bs h.1

same_call : (new : Numbers) (f : ℕ) (e : MidEnd) → is_call (renumbered_end new f e) ≡ is_call e
same_call new f (Jump to) = refl
same_call new f (Branch test when to) = refl
same_call new f (Call function args result) = refl
same_call new f (Return from) = refl

renumbered_none : (new : Numbers) (f : ℕ) (bs : List MidBlock) → CallNothing bs → CallNothing (map (renumbered_block new f) bs)
renumbered_none new f [] h = tt
renumbered_none new f (b ∷ bs) h = (same_call new f b.end ∙ h.0, renumbered_none new f bs h.1)

pub kept_none : (new : Numbers) (f : ℕ) (ms : List Bool) (bs : List MidBlock) → CallNothing bs → CallNothing (map (renumbered_block new f) (marked ms bs))
kept_none new f ms bs h = renumbered_none new f (marked ms bs) (marked_none ms bs h)
