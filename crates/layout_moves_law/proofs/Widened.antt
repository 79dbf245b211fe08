-- The far form of branches keeps that no edge is critical.
use Rattle.std.proofs.Common.{◌≡◌, ◌≢◌, ◌<◌, ℕ, zero, suc, ◌+◌, arith, ap, refl, sym, ◌∙◌, subst, length, Bool, true, false, cond, inl, inr}
use Rattle.std.specs.Prelude.{Option, Some, None, ◌⊎◌, slice_get}
use Rattle.hard_items.specs.declared.code.HardProgram.{HardProgram}
use Rattle.hard_items.specs.Run.{items_of}
use Rattle.hard_items.specs.Ways.{MayFollow, CallsFunction}
use Rattle.hard_items.specs.WellFormed.{WellFormed}
use Rattle.hard_items.specs.Forms.{Close, Jump, Branch, Call, Return, Exit, Formed}
use Rattle.sign_law.specs.Graph.{HasTwo}
use Rattle.sign_law.specs.Signs.{IsSmooth}
use Rattle.block_relays.specs.Relays.{Relays, Nothing, goals}
use Rattle.block_relays.proofs.Keeps.{put_close}
use Rattle.block_relays.proofs.Relays.{place_next, holds_there}
use Rattle.block_relays.proofs.Roles.{BranchesTo}
use Rattle.far_branches.specs.Widen.{first_goal, is_large, far_of, far_as, far_relays, far_place, widened}
use Rattle.layout_moves_law.proofs.Closes.{Leads, follows, calls_close, Branches}
use Rattle.layout_moves_law.proofs.Places.{Put, Located, at_place, at_relay, located, place_once}
use Rattle.layout_moves_law.proofs.Ways.{Caller, caller, place_leads, relay_leads, branches_to}
use Rattle.layout_moves_law.proofs.WellFormed.{well_formed}
use Rattle.layout_moves_law.proofs.Far.{far_branches, far_put}
use Rattle.layout_moves_law.proofs.WidenLawLists.{far_lists}
use Rattle.layout_moves_law.proofs.Edges.{smooth_of, none_critical, smooth_by_ways}
use Rattle.layout_moves_law.specs.SplitLawLaw.{WidenedKeepsSmooth}
use Rattle.layout_moves_law.proofs.Plans.{first_far}
use Rattle.layout_moves_law.proofs.SplitLawSmooth.{from_there, between, once, straight}

none_some : (t : ℕ) → None ≡ Some t → ⊥
none_some t e = cc

same_some : (u t : ℕ) → Some u ≡ Some t → u ≡ t
same_some u t e = cc

same_or : (a b : ℕ) → (a ≡ b) ⊎ (a ≢ b)
same_or a b = grind arith

-- A far branch goes to another block than the next.
far_apart : (p : HardProgram) (b t : ℕ) → far_of p b ≡ Some t → t ≢ b + 1
far_apart p b t e = first_far b t (items_of p b) (by (is_large p b) (first_goal b (items_of p b)) e)
  where
    by : (z : Bool) (o : Option ℕ) → cond z o None ≡ Some t → o ≡ Some t
    by true o e = e
    by false o e = absurd (none_some t e)

module _ (p : HardProgram) (w : WellFormed p) (g : (b : ℕ) → b < length p.blocks → Formed (items_of p b)) where
  -- the program and its far form
  abbrev a : Put (far_relays p) p (widened p)
  a = far_put p w g

  -- The goal of a block that is put behind another is that of its far branch.
  goal_far : (b r c : ℕ) → slice_get (goals b (far_relays p b)) r ≡ Some c → (r ≡ 0) × (far_of p b ≡ Some c)
  goal_far b r c s = by (far_of p b) refl r s
    where
      by : (o : Option ℕ) → far_of p b ≡ o → (r : ℕ) → slice_get (goals b (far_as (far_of p b))) r ≡ Some c → (r ≡ 0) × (far_of p b ≡ Some c)
      by None e r s = absurd (none_some c (sym (ap (λ (z : Option ℕ). slice_get (goals b (far_as z)) r) e) ∙ s))
      by (Some t) e zero s = (refl, e ∙ (sym (ap (λ (z : Option ℕ). slice_get (goals b (far_as z)) 0) e) ∙ s))
      by (Some t) e (suc r) s = absurd (none_some c (sym (ap (λ (z : Option ℕ). slice_get (goals b (far_as z)) (suc r)) e) ∙ s))

  far_follows : (b t : ℕ) (l : b < length p.blocks) → far_of p b ≡ Some t → MayFollow p b t × MayFollow p b (b + 1)
  far_follows b t l e =
      let h : Branches ((g b l).close) t = branches_to ((g b l).close) t (far_branches p b t (g b l) e) in
      (follows p b t (g b l) (subst (λ (z : Close). Leads p b z t) (sym h.is) (inl refl)), follows p b (b + 1) (g b l) (subst (λ (z : Close). Leads p b z (b + 1)) (sym h.is) (inr refl)))

  relay_far : (b t : ℕ) → far_of p b ≡ Some t → 0 < length (goals b (far_relays p b))
  relay_far b t e = subst (λ (z : Option ℕ). 0 < length (goals b (far_as z))) (sym e) one
    where
      one : 0 < length (goals b (far_as (Some t)))
      one = omega arith

  -- A block with a far branch does not go straight to the goal of it.
  not_straight : (b t : ℕ) (l : b < length p.blocks) → far_of p b ≡ Some t → MayFollow (widened p) (far_place p b) (far_place p t) → ⊥
  not_straight b t l e f =
      let h : Branches ((g b l).close) t = branches_to ((g b l).close) t (far_branches p b t (g b l) e) in
      by (subst (λ (z : Relays). Leads (widened p) (far_place p b) (put_close (far_place p) b z (Branch h.checked h.register h.when t)) (far_place p t)) (ap far_as e)
      (subst (λ (z : Close). Leads (widened p) (far_place p b) (put_close (far_place p) b (far_relays p b) z) (far_place p t)) h.is (place_leads (far_relays p) p (widened p) a b (far_place p t) l f)))
    where
      by : (far_place p t ≡ far_place p (b + 1)) ⊎ (far_place p t ≡ far_place p b + 1) → ⊥
      by (inl s) = far_apart p b t e (place_once (far_relays p) t (b + 1) s)
      by (inr s) = between (far_relays p) b 0 t (relay_far b t e) (sym s)

  -- ---- where the edges to a place come from

  record Source (n c : ℕ) : Type 0 where
    block : ℕ
    leads_on : MayFollow p block c
    from : (n ≡ far_place p block) ⊎ ((n ≡ far_place p block + 1) × (far_of p block ≡ Some c))

  source : (n c : ℕ) → MayFollow (widened p) n (far_place p c) → Source n c
  source n c f = by (located (far_relays p) p (widened p) a.has n (from_there (widened p) n (far_place p c) f))
    where
      by : Located (far_relays p) p (widened p) n → Source n c
      by (at_place b l e) = record { block = b; leads_on = straight (far_relays p) p (widened p) a b c l (subst (λ (z : ℕ). MayFollow (widened p) z (far_place p c)) e f); from = inl e }
      by (at_relay b r d l s e i) =
          let z : (r ≡ 0) × (far_of p b ≡ Some d) = goal_far b r d s in
          let same : c ≡ d = place_once (far_relays p) c d (relay_leads (far_relays p) p (widened p) a n (far_place p d) (far_place p c) i f) in
          let far : far_of p b ≡ Some c = z.1 ∙ ap (λ (x : ℕ). Some x) (sym same) in
          record { block = b; leads_on = (far_follows b c l far).0; from = inr (e ∙ ap (λ (y : ℕ). far_place p b + suc y) z.0, far) }

  -- Two edges to a place from one block are one.
  one_source : (n m c : ℕ) → MayFollow (widened p) n (far_place p c) → MayFollow (widened p) m (far_place p c) → (x : Source n c) (y : Source m c) → x.block ≡ y.block → n ≡ m
  one_source n m c f h x y e = by x.from y.from
    where
      there : (b : ℕ) → MayFollow p b c → b < length p.blocks
      there b k = from_there p b c k

      by : (n ≡ far_place p x.block) ⊎ ((n ≡ far_place p x.block + 1) × (far_of p x.block ≡ Some c)) → (m ≡ far_place p y.block) ⊎ ((m ≡ far_place p y.block + 1) × (far_of p y.block ≡ Some c)) → n ≡ m
      by (inl i) (inl j) = i ∙ (ap (far_place p) e ∙ sym j)
      by (inr i) (inr j) = i.0 ∙ (ap (λ (z : ℕ). far_place p z + 1) e ∙ sym j.0)
      by (inl i) (inr j) = absurd (not_straight x.block c (there x.block x.leads_on) (ap (far_of p) e ∙ j.1) (subst (λ (z : ℕ). MayFollow (widened p) z (far_place p c)) i f))
      by (inr i) (inl j) = absurd (not_straight y.block c (there y.block y.leads_on) (ap (far_of p) (sym e) ∙ i.1) (subst (λ (z : ℕ). MayFollow (widened p) z (far_place p c)) j h))

  two_sources : (c : ℕ) → HasTwo (MayFollow (widened p)) (far_place p c) → HasTwo (MayFollow p) c
  two_sources c t =
      let x : Source t.one c = source t.one c t.by_one in
      let y : Source t.other c = source t.other c t.by_other in
      record { one = x.block; other = y.block; differ = λ e. t.differ (one_source t.one t.other c t.by_one t.by_other x y e); by_one = x.leads_on; by_other = y.leads_on }

  -- ---- no edge is critical

  module _ (s : IsSmooth (MayFollow p)) where
    -- Two edges that go straight from a block.
    straight_both : (b c d v x : ℕ) (l : b < length p.blocks) → v ≡ far_place p c → x ≡ far_place p d → MayFollow (widened p) (far_place p b) v → MayFollow (widened p) (far_place p b) x → HasTwo (MayFollow (widened p)) v → x ≡ v
    straight_both b c d v x l e h f k t =
        h ∙ (ap (far_place p) (s b c d (straight (far_relays p) p (widened p) a b c l (subst (MayFollow (widened p) (far_place p b)) e f)) (two_sources c (subst (HasTwo (MayFollow (widened p))) e t)) (straight (far_relays p) p (widened p) a b d l (subst (MayFollow (widened p) (far_place p b)) h k))) ∙ sym e)

    -- A far branch leads to no block with two before it.
    far_two : (b t v : ℕ) (l : b < length p.blocks) → far_of p b ≡ Some t → (v ≡ far_place p (b + 1)) ⊎ (v ≡ far_place p b + 1) → HasTwo (MayFollow (widened p)) v → ⊥
    far_two b t v l e (inl h) k = far_apart p b t e (s b (b + 1) t (far_follows b t l e).1 (two_sources (b + 1) (subst (HasTwo (MayFollow (widened p))) h k)) (far_follows b t l e).0)
    far_two b t v l e (inr h) k = once (far_relays p) p (widened p) a b 0 (relay_far b t e) (subst (HasTwo (MayFollow (widened p))) h k)

    call_nothing : (k f : ℕ) → CallsFunction p k f → far_relays p k ≡ Nothing
    call_nothing k f c = by (far_of p k) refl
      where
        l : k < length p.blocks
        l = holds_there p k c.item c.holds

        by : (o : Option ℕ) → far_of p k ≡ o → far_relays p k ≡ Nothing
        by None e = ap far_as e
        by (Some t) e = absurd (subst (λ (z : Close). BranchesTo z t) (calls_close p k f (g k l) c) (far_branches p k t (g k l) e))

    -- Where a return leads is the place of the block behind the call.
    back_place : (x f v : ℕ) → CallsFunction (widened p) x f → v ≡ x + 1 → (k : ℕ) × (v ≡ far_place p (k + 1))
    back_place x f v c e =
        let m : Caller (far_relays p) p x f = caller (far_relays p) p (widened p) a x f c in
        (m.block, e ∙ (ap (λ (z : ℕ). z + 1) m.is ∙ place_next (far_relays p) m.block Nothing (call_nothing m.block f m.calls)))

    branch_at : (b t v x : ℕ) (l : b < length p.blocks) (checked : Bool) (r : ℕ) (when : Bool) → (g b l).close ≡ Branch checked r when t → (o : Option ℕ) → far_of p b ≡ o →
        MayFollow (widened p) (far_place p b) v → MayFollow (widened p) (far_place p b) x → Leads (widened p) (far_place p b) (put_close (far_place p) b (far_as o) (Branch checked r when t)) v → Leads (widened p) (far_place p b) (put_close (far_place p) b (far_as o) (Branch checked r when t)) x → HasTwo (MayFollow (widened p)) v → x ≡ v
    branch_at b t v x l checked r when c (Some u) e f k h j two = absurd (far_two b u v l e h two)
    branch_at b t v x l checked r when c None e f k h j two =
        let y : (y : ℕ) × (v ≡ far_place p y) = at v h in
        let z : (z : ℕ) × (x ≡ far_place p z) = at x j in
        straight_both b y.0 z.0 v x l y.1 z.1 f k two
      where
        at : (m : ℕ) → (m ≡ far_place p t) ⊎ (m ≡ far_place p b + 1) → (y : ℕ) × (m ≡ far_place p y)
        at m (inl i) = (t, i)
        at m (inr i) = (b + 1, i ∙ place_next (far_relays p) b Nothing (ap far_as e))

    at_close : (b v x : ℕ) (l : b < length p.blocks) (c : Close) → (g b l).close ≡ c → MayFollow (widened p) (far_place p b) v → MayFollow (widened p) (far_place p b) x →
        Leads (widened p) (far_place p b) (put_close (far_place p) b (far_relays p b) c) v → Leads (widened p) (far_place p b) (put_close (far_place p) b (far_relays p b) c) x → HasTwo (MayFollow (widened p)) v → x ≡ v
    at_close b v x l (Jump t) e f k h j two = j ∙ sym h
    at_close b v x l (Branch checked r when t) e f k h j two = branch_at b t v x l checked r when e (far_of p b) refl f k h j two
    at_close b v x l (Call n) e f k h j two = same_some x v (sym j ∙ h)
    at_close b v x l (Return checked) e f k h j two =
        let y : (y : ℕ) × (v ≡ far_place p (y + 1)) = back_place h.1.0 h.0 v h.1.1.1.0 h.1.1.1.1 in
        let z : (z : ℕ) × (x ≡ far_place p (z + 1)) = back_place j.1.0 j.0 x j.1.1.1.0 j.1.1.1.1 in
        straight_both b (y.0 + 1) (z.0 + 1) v x l y.1 z.1 f k two
    at_close b v x l (Exit checked) e f k h j two = absurd h

    far_smooth : IsSmooth (MayFollow (widened p))
    far_smooth n v x f two k = by (located (far_relays p) p (widened p) a.has n (from_there (widened p) n v f))
      where
        by : Located (far_relays p) p (widened p) n → x ≡ v
        by (at_relay b r c l y z i) = relay_leads (far_relays p) p (widened p) a n (far_place p c) x i k ∙ sym (relay_leads (far_relays p) p (widened p) a n (far_place p c) v i f)
        by (at_place b l y) = at_close b v x l ((g b l).close) refl (subst (λ (z : ℕ). MayFollow (widened p) z v) y f) (subst (λ (z : ℕ). MayFollow (widened p) z x) y k)
            (place_leads (far_relays p) p (widened p) a b v l (subst (λ (z : ℕ). MayFollow (widened p) z v) y f)) (place_leads (far_relays p) p (widened p) a b x l (subst (λ (z : ℕ). MayFollow (widened p) z x) y k)) two

pub widened_keeps_smooth : WidenedKeepsSmooth
widened_keeps_smooth p w g few n =
    (smooth_by_ways (widened p) (well_formed (far_relays p) p (widened p) (far_put p w g) (far_lists p w g few))).1
    (none_critical (MayFollow (widened p)) (far_smooth p w g (smooth_of (MayFollow p) ((smooth_by_ways p w).0 n))))
