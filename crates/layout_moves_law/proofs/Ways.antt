-- A program with blocks put behind its blocks: how its blocks lead to each other.
use Rattle.std.proofs.Common.{◌≡◌, ◌≤◌, ◌<◌, ℕ, zero, suc, ◌+◌, arith, ap, refl, sym, ◌∙◌, subst, List, [], ◌∷◌, length, Bool, inl, inr}
use Rattle.std.specs.Prelude.{Some, None, ◌⊎◌, ◌↔◌, slice_get}
use Rattle.std.proofs.lemmas.List.Elements.{All-contains}
use Rattle.mips_isa.specs.declared.instr.Instr.TheVariants.{Beq, Bne}
use Rattle.hard_items.specs.declared.code.Fix.{Fix}
use Rattle.hard_items.specs.declared.code.Fix.TheVariants.{Block}
use Rattle.hard_items.specs.declared.code.Item.{Item}
use Rattle.hard_items.specs.declared.code.HardProgram.{HardProgram}
use Rattle.hard_items.specs.Run.{items_of}
use Rattle.hard_items.specs.Ways as mf
use Rattle.hard_items.specs.Ways.{Holds, MayFollow, IsOfFunction, CallsFunction}
use Rattle.hard_items.specs.WellFormed.{WellFormed, ItemAt, NamesThere, IsEntered}
use Rattle.hard_items.specs.Forms.{Close, Jump, Branch, Call, Return, Exit, close_items, Formed}
use Rattle.block_relays.specs.Relays.{Relays, Nothing, Next, Turned, Both, goals, place_of, goal_place}
use Rattle.block_relays.proofs.Keeps.{put_close}
use Rattle.block_relays.proofs.Relays.{place_up, get_map, got_map, calls_put, place_next, holds_there}
use Rattle.block_relays.proofs.Roles.{BranchesTo}
use Rattle.layout_law.proofs.Laying.{holds_at}
use Rattle.layout_moves_law.proofs.Closes.{Leads, leads, follows, calls_close, close_calls, closing, holds_closing, Branches, closing_branches}
use Rattle.layout_moves_law.proofs.Places.{Puts, Put, Located, at_place, at_relay, located, Relayed, relayed_at, place_once, Closed, closed, jumps_only, jumps_close, in_function}

no_some : {A : Type 0} (x : A) → None ≡ Some x → ⊥
no_some x e = cc

same_some : (a b : ℕ) → Some a ≡ Some b → a ≡ b
same_some a b e = cc

zero_not : (a : ℕ) → 0 ≡ a + 1 → ⊥
zero_not a e = omega arith

-- ---- the branch of a block

pub branches_to : (c : Close) (t : ℕ) → BranchesTo c t → Branches c t
branches_to (Branch checked r when to) t h = record { checked = checked; register = r; when = when; is = ap (λ (z : ℕ). Branch checked r when z) h }
branches_to (Jump to) t h = absurd h
branches_to (Call f) t h = absurd h
branches_to (Return checked) t h = absurd h
branches_to (Exit checked) t h = absurd h

pub branch_leads : (p : HardProgram) (b t : ℕ) (c : Close) → BranchesTo c t → Leads p b c t
branch_leads p b t (Branch checked r when to) h = inl (sym h)
branch_leads p b t (Jump to) h = absurd h
branch_leads p b t (Call f) h = absurd h
branch_leads p b t (Return checked) h = absurd h
branch_leads p b t (Exit checked) h = absurd h

-- What a well-formed program says of a block that closes by a branch.
pub record Forks (p : HardProgram) (b t : ℕ) : Type 0 where
  pub next : b + 1 < length p.blocks
  pub goal : t < length p.blocks
  pub to_goal : (f : ℕ) → IsOfFunction p b f ↔ IsOfFunction p t f
  pub to_next : (f : ℕ) → IsOfFunction p b f ↔ IsOfFunction p (b + 1) f

pub forks : (p : HardProgram) (b t : ℕ) → WellFormed p → (g : Formed (items_of p b)) → Branches g.close t → Forks p b t
forks p b t w g h =
    let i : Item = closing g.close in
    let c : ((closing g.close).fix ≡ Block t) × ((r : ℕ) × (((closing g.close).instr ≡ Beq r 0 0) ⊎ ((closing g.close).instr ≡ Bne r 0 0))) = closing_branches g.close t h in
    let k : (k : ℕ) × ItemAt (items_of p b) k (closing g.close) = holds_at (items_of p b) (closing g.close) (holds_closing p b g) in
    let s : (b + 1 < length p.blocks) × ((f : ℕ) → (IsOfFunction p b f ↔ IsOfFunction p t f) × (IsOfFunction p b f ↔ IsOfFunction p (b + 1) f)) = w.branch_stays b k.0 t c.1.0 0 0 (closing g.close) k.1 c.0 c.1.1 in
    record {
      next = s.0;
      goal = subst (λ (z : Fix). NamesThere p z) c.0 (All-contains (λ (x : Item). NamesThere p x.fix) (items_of p b) (closing g.close) (w.named_there b) (holds_closing p b g));
      to_goal = λ f. (s.1 f).0;
      to_next = λ f. (s.1 f).1;
    }

-- ---- goals

-- A block that is put jumps to the next block or to the goal of the branch.
pub goal_is : (b m c : ℕ) (r : Relays) (k : Close) → Puts r k → slice_get (goals b r) m ≡ Some c → (c ≡ b + 1) ⊎ BranchesTo k c
goal_is b m c Nothing k h e = absurd (no_some c e)
goal_is b zero c Next k h e = inl (sym (same_some (b + 1) c e))
goal_is b (suc m) c Next k h e = absurd (no_some c e)
goal_is b zero c (Turned u) k h e = inr (subst (BranchesTo k) (same_some u c e) h)
goal_is b (suc m) c (Turned u) k h e = absurd (no_some c e)
goal_is b zero c (Both u) k h e = inl (sym (same_some (b + 1) c e))
goal_is b (suc zero) c (Both u) k h e = inr (subst (BranchesTo k) (same_some u c e) h)
goal_is b (suc (suc m)) c (Both u) k h e = absurd (no_some c e)

next_there : (p : HardProgram) (b m c : ℕ) (w : WellFormed p) (g : Formed (items_of p b)) (r : Relays) (k : Close) → g.close ≡ k → Puts r k → slice_get (goals b r) m ≡ Some c → b + 1 < length p.blocks
next_there p b m c w g Nothing k e h s = absurd (no_some c s)
next_there p b m c w g Next (Jump t) e h s = absurd h
next_there p b m c w g Next (Branch checked r when t) e h s = (forks p b t w g (record { checked = checked; register = r; when = when; is = e })).next
next_there p b m c w g Next (Call f) e h s = w.call_goes_on b f (close_calls p b f g e)
next_there p b m c w g Next (Return checked) e h s = absurd h
next_there p b m c w g Next (Exit checked) e h s = absurd h
next_there p b m c w g (Turned u) k e h s = (forks p b u w g (branches_to g.close u (subst (λ (z : Close). BranchesTo z u) (sym e) h))).next
next_there p b m c w g (Both u) k e h s = (forks p b u w g (branches_to g.close u (subst (λ (z : Close). BranchesTo z u) (sym e) h))).next

pub goal_there : (p : HardProgram) (b m c : ℕ) (w : WellFormed p) (g : Formed (items_of p b)) (r : Relays) → Puts r g.close → slice_get (goals b r) m ≡ Some c → c < length p.blocks
goal_there p b m c w g r h s = by (goal_is b m c r g.close h s)
  where
    by : ((c ≡ b + 1) ⊎ BranchesTo g.close c) → c < length p.blocks
    by (inl e) = subst (λ (z : ℕ). z < length p.blocks) (sym e) (next_there p b m c w g r g.close refl h s)
    by (inr e) = (forks p b c w g (branches_to g.close c e)).goal

within_get : (xs : List ℕ) (m c : ℕ) → slice_get xs m ≡ Some c → m < length xs
within_get [] m c e = absurd (no_some c e)
within_get (x ∷ xs) zero c e = omega arith
within_get (x ∷ xs) (suc m) c e = omega (arith, within_get xs m c e)

-- ---- calls

put_call : (place : ℕ → ℕ) (b f : ℕ) (r : Relays) (c : Close) → put_close place b r c ≡ Call f → c ≡ Call f
put_call place b f r (Jump t) e = absurd (no e)
  where
    no : Jump (goal_place place b r t) ≡ Call f → ⊥
    no e = cc
put_call place b f r (Branch checked m when t) e = absurd (no _ e)
  where
    no : (w : Bool) → Branch checked m w (goal_place place b r t) ≡ Call f → ⊥
    no w e = cc
put_call place b f r (Call g) e = e
put_call place b f r (Return checked) e = absurd (no e)
  where
    no : Return checked ≡ Call f → ⊥
    no e = cc
put_call place b f r (Exit checked) e = absurd (no e)
  where
    no : Exit checked ≡ Call f → ⊥
    no e = cc

-- A block that calls a function is a block in its place that did.
pub record Caller (relays : ℕ → Relays) (p : HardProgram) (n f : ℕ) : Type 0 where
  pub block : ℕ
  pub there : block < length p.blocks
  pub is : n ≡ place_of relays block
  pub calls : CallsFunction p block f

jump_no_call : (t f : ℕ) → Jump t ≡ Call f → ⊥
jump_no_call t f e = cc

-- ---- the blocks of the program with blocks put

module _ (relays : ℕ → Relays) (p q : HardProgram) (a : Put relays p q) where
  -- Where a block in its place leads.
  pub place_leads : (b m : ℕ) (l : b < length p.blocks) → MayFollow q (place_of relays b) m → Leads q (place_of relays b) (put_close (place_of relays) b (relays b) ((a.formed b l).close)) m
  place_leads b m l f =
      let k : Closed (place_of relays) q (place_of relays b) b (relays b) ((a.formed b l).close) = closed relays p q a b l in
      subst (λ (z : Close). Leads q (place_of relays b) z m) k.close (leads q (place_of relays b) m k.formed f)

  pub leads_place : (b m : ℕ) (l : b < length p.blocks) → Leads q (place_of relays b) (put_close (place_of relays) b (relays b) ((a.formed b l).close)) m → MayFollow q (place_of relays b) m
  leads_place b m l f =
      let k : Closed (place_of relays) q (place_of relays b) b (relays b) ((a.formed b l).close) = closed relays p q a b l in
      follows q (place_of relays b) m k.formed (subst (λ (z : Close). Leads q (place_of relays b) z m) (sym k.close) f)

  -- Where a block that is put leads.
  pub relay_leads : (n t m : ℕ) → items_of q n ≡ close_items (Jump t) → MayFollow q n m → m ≡ t
  relay_leads n t m e f = subst (λ (z : Close). Leads q n z m) (jumps_close q n t e) (leads q n m (jumps_only q n t e) f)

  pub leads_relay : (n t : ℕ) → items_of q n ≡ close_items (Jump t) → MayFollow q n t
  leads_relay n t e = follows q n t (jumps_only q n t e) (subst (λ (z : Close). Leads q n z t) (sym (jumps_close q n t e)) refl)

  pub goal_follows : (b m c : ℕ) → b < length p.blocks → slice_get (goals b (relays b)) m ≡ Some c → MayFollow q (place_of relays b + suc m) (place_of relays c)
  goal_follows b m c l e =
      let r : Relayed relays q b m = relayed_at relays p q a.has b m l (within_get (goals b (relays b)) m c e) in
      let s : r.goal ≡ c = same_some r.goal c (sym r.listed ∙ e) in
      subst (λ (z : ℕ). MayFollow q (place_of relays b + suc m) (place_of relays z)) s (leads_relay (place_of relays b + suc m) (place_of relays r.goal) r.items)

  -- ---- calls

  pub caller : (n f : ℕ) → CallsFunction q n f → Caller relays p n f
  caller n f c = by (located relays p q a.has n (holds_there q n c.item c.holds))
    where
      by : Located relays p q n → Caller relays p n f
      by (at_relay b r g l s e i) = absurd (jump_no_call (place_of relays g) f (sym (jumps_close q n (place_of relays g) i) ∙ calls_close q n f (jumps_only q n (place_of relays g) i) c))
      by (at_place b l e) =
          let k : Closed (place_of relays) q (place_of relays b) b (relays b) ((a.formed b l).close) = closed relays p q a b l in
          let d : CallsFunction q (place_of relays b) f = subst (λ (z : ℕ). CallsFunction q z f) e c in
          record { block = b; there = l; is = e; calls = close_calls p b f (a.formed b l) (put_call (place_of relays) b f (relays b) ((a.formed b l).close) (sym k.close ∙ calls_close q (place_of relays b) f k.formed d)) }

  -- ---- where the next block behind a call is

  pub call_next : (b f : ℕ) → CallsFunction p b f → (place_of relays (b + 1) ≡ place_of relays b + 1) ⊎ ((n : ℕ) × MayFollow q n (place_of relays (b + 1)))
  call_next b f c = by (relays b) refl (subst (Puts (relays b)) (calls_close p b f (a.formed b l) c) (a.puts b l))
    where
      l : b < length p.blocks
      l = holds_there p b c.item c.holds

      by : (r : Relays) → relays b ≡ r → Puts r (Call f) → (place_of relays (b + 1) ≡ place_of relays b + 1) ⊎ ((n : ℕ) × MayFollow q n (place_of relays (b + 1)))
      by Nothing e h = inl (sym (place_next relays b Nothing e))
      by Next e h = inr (place_of relays b + 1, goal_follows b 0 (b + 1) l (ap (λ (z : Relays). slice_get (goals b z) 0) e))
      by (Turned u) e h = absurd h
      by (Both u) e h = absurd h

  -- ---- the blocks that followed still follow some block

  pub onward : (b c : ℕ) (l : b < length p.blocks) → MayFollow p b c → (n : ℕ) × MayFollow q n (place_of relays c)
  onward b c l f = by (relays b) refl ((a.formed b l).close) refl (a.puts b l) (leads p b c (a.formed b l) f)
    where
      from_place : (r : Relays) → relays b ≡ r → (k : Close) → (a.formed b l).close ≡ k → (m : ℕ) → Leads q (place_of relays b) (put_close (place_of relays) b r k) m → MayFollow q (place_of relays b) m
      from_place r e k g m h = leads_place b m l (subst (λ (z : Relays). Leads q (place_of relays b) (put_close (place_of relays) b z ((a.formed b l).close)) m) (sym e) (subst (λ (z : Close). Leads q (place_of relays b) (put_close (place_of relays) b r z) m) (sym g) h))

      from_relay : (r : Relays) → relays b ≡ r → (m t : ℕ) → slice_get (goals b r) m ≡ Some t → MayFollow q (place_of relays b + suc m) (place_of relays t)
      from_relay r e m t s = goal_follows b m t l (ap (λ (z : Relays). slice_get (goals b z) m) e ∙ s)

      there : (n m : ℕ) → c ≡ m → MayFollow q n (place_of relays m) → (n : ℕ) × MayFollow q n (place_of relays c)
      there n m e h = (n, subst (λ (z : ℕ). MayFollow q n (place_of relays z)) (sym e) h)

      returned : (r : Relays) → relays b ≡ r → (checked : Bool) → (a.formed b l).close ≡ Return checked → (f d : ℕ) → IsOfFunction p b f → CallsFunction p d f → c ≡ d + 1 → (n : ℕ) × MayFollow q n (place_of relays c)
      returned r e checked g f d o h s = elim (call_next d f h) [
        | inl x ↦ there (place_of relays b) (d + 1) s (from_place r e (Return checked) g (place_of relays (d + 1)) (f, (place_of relays d, (((in_function relays p q a.has b (place_of relays b) f (self (place_of relays b)) (less b)).1 o), (calls_put relays p q a.has d f h, x)))))
        | inr x ↦ there x.0 (d + 1) s x.1
      ] where
        self : (n : ℕ) → n ≤ n
        self n = omega arith

        less : (b : ℕ) → place_of relays b < place_of relays (b + 1)
        less b = place_up relays b (b + 1) (omega arith)

      by : (r : Relays) → relays b ≡ r → (k : Close) → (a.formed b l).close ≡ k → Puts r k → Leads p b k c → (n : ℕ) × MayFollow q n (place_of relays c)
      by Nothing e (Jump t) g h s = there (place_of relays b) t s (from_place Nothing e (Jump t) g (place_of relays t) refl)
      by Next e (Jump t) g h s = absurd h
      by (Turned u) e (Jump t) g h s = absurd h
      by (Both u) e (Jump t) g h s = absurd h
      by Nothing e (Branch checked m when t) g h (inl s) = there (place_of relays b) t s (from_place Nothing e (Branch checked m when t) g (place_of relays t) (inl refl))
      by Nothing e (Branch checked m when t) g h (inr s) = there (place_of relays b) (b + 1) s (from_place Nothing e (Branch checked m when t) g (place_of relays (b + 1)) (inr (sym (place_next relays b Nothing e))))
      by Next e (Branch checked m when t) g h (inl s) = there (place_of relays b) t s (from_place Next e (Branch checked m when t) g (place_of relays t) (inl refl))
      by Next e (Branch checked m when t) g h (inr s) = there (place_of relays b + 1) (b + 1) s (from_relay Next e 0 (b + 1) refl)
      by (Turned u) e (Branch checked m when t) g h (inl s) = there (place_of relays b + 1) u (s ∙ h) (from_relay (Turned u) e 0 u refl)
      by (Turned u) e (Branch checked m when t) g h (inr s) = there (place_of relays b) (b + 1) s (from_place (Turned u) e (Branch checked m when t) g (place_of relays (b + 1)) (inl refl))
      by (Both u) e (Branch checked m when t) g h (inl s) = there (place_of relays b + 2) u (s ∙ h) (from_relay (Both u) e 1 u refl)
      by (Both u) e (Branch checked m when t) g h (inr s) = there (place_of relays b + 1) (b + 1) s (from_relay (Both u) e 0 (b + 1) refl)
      by r e (Call f) g h s = there (place_of relays b) c refl (from_place r e (Call f) g (place_of relays c) (ap (λ (z : List ℕ). slice_get z f) a.has.entries ∙ get_map (place_of relays) p.entries f c s))
      by r e (Return checked) g h s = returned r e checked g s.0 s.1.0 s.1.1.0 s.1.1.1.0 s.1.1.1.1
      by r e (Exit checked) g h s = absurd s

  -- ---- each block is entered

  relay_entered : (b m c : ℕ) (l : b < length p.blocks) → slice_get (goals b (relays b)) m ≡ Some c → IsEntered q (place_of relays b + suc m)
  relay_entered b m c l s = by (relays b) refl ((a.formed b l).close) refl (a.puts b l) m s
    where
      from_place : (r : Relays) → relays b ≡ r → (k : Close) → (a.formed b l).close ≡ k → (m : ℕ) → Leads q (place_of relays b) (put_close (place_of relays) b r k) m → MayFollow q (place_of relays b) m
      from_place r e k g m h = leads_place b m l (subst (λ (z : Relays). Leads q (place_of relays b) (put_close (place_of relays) b z ((a.formed b l).close)) m) (sym e) (subst (λ (z : Close). Leads q (place_of relays b) (put_close (place_of relays) b r z) m) (sym g) h))

      by_branch : (r : Relays) → relays b ≡ r → (u : ℕ) → BranchesTo ((a.formed b l).close) u → IsEntered q (place_of relays b + 1)
      by_branch r e u h =
          let k : Branches ((a.formed b l).close) u = branches_to ((a.formed b l).close) u h in
          inl (place_of relays b, from_place r e (Branch k.checked k.register k.when u) k.is (place_of relays b + 1) (inr refl))

      by : (r : Relays) → relays b ≡ r → (k : Close) → (a.formed b l).close ≡ k → Puts r k → (m : ℕ) → slice_get (goals b (relays b)) m ≡ Some c → IsEntered q (place_of relays b + suc m)
      by Nothing e k g h m s = absurd (no_some c (sym (ap (λ (z : Relays). slice_get (goals b z) m) e) ∙ s))
      by Next e (Jump t) g h m s = absurd h
      by Next e (Return checked) g h m s = absurd h
      by Next e (Exit checked) g h m s = absurd h
      by Next e (Branch checked r when t) g h zero s = inl (place_of relays b, from_place Next e (Branch checked r when t) g (place_of relays b + 1) (inr refl))
      by Next e (Call f) g h zero s = inr (place_of relays b, f, refl, calls_put relays p q a.has b f (close_calls p b f (a.formed b l) g))
      by Next e k g h (suc m) s = absurd (no_some c (sym (ap (λ (z : Relays). slice_get (goals b z) (suc m)) e) ∙ s))
      by (Turned u) e k g h zero s = by_branch (Turned u) e u (subst (λ (z : Close). BranchesTo z u) (sym g) h)
      by (Turned u) e k g h (suc m) s = absurd (no_some c (sym (ap (λ (z : Relays). slice_get (goals b z) (suc m)) e) ∙ s))
      by (Both u) e k g h zero s = by_branch (Both u) e u (subst (λ (z : Close). BranchesTo z u) (sym g) h)
      by (Both u) e k g h (suc zero) s =
          let i : Branches ((a.formed b l).close) u = branches_to ((a.formed b l).close) u (subst (λ (z : Close). BranchesTo z u) (sym g) h) in
          inl (place_of relays b, from_place (Both u) e (Branch i.checked i.register i.when u) i.is (place_of relays b + 2) (inl refl))
      by (Both u) e k g h (suc (suc m)) s = absurd (no_some c (sym (ap (λ (z : Relays). slice_get (goals b z) (suc (suc m))) e) ∙ s))

  follow_from : (n m : ℕ) → MayFollow p n m → n < length p.blocks
  follow_from n m (mf.jumped c tg i h x e) = holds_there p n i h
  follow_from n m (mf.branched_eq c rs rt imm i h x e) = holds_there p n i h
  follow_from n m (mf.branched_ne c rs rt imm i h x e) = holds_there p n i h
  follow_from n m (mf.fallen_eq c rs rt imm i h x e) = holds_there p n i h
  follow_from n m (mf.fallen_ne c rs rt imm i h x e) = holds_there p n i h
  follow_from n m (mf.called f c h e) = holds_there p n h.item h.holds
  follow_from n m (mf.returned f d rs i h x o c) = holds_there p n i h

  place_entered : (c : ℕ) → IsEntered p c → IsEntered q (place_of relays c)
  place_entered c (inl h) = inl (onward h.0 c (follow_from h.0 c h.1) h.1)
  place_entered c (inr h) = elim (call_next h.0 h.1 h.3) [
    | inl x ↦ inr (place_of relays h.0, h.1, ap (place_of relays) h.2 ∙ x, calls_put relays p q a.has h.0 h.1 h.3)
    | inr x ↦ inl (x.0, subst (λ (z : ℕ). MayFollow q x.0 (place_of relays z)) (sym h.2) x.1)
  ]

  pub each_entered : (n : ℕ) → 0 < n → n < length q.blocks → IsEntered q n
  each_entered n z l = by (located relays p q a.has n l)
    where
      first : (b n : ℕ) → 0 < n → n ≡ place_of relays b → 0 < b
      first zero n h e = absurd (no n h e)
        where
          no : (n : ℕ) → 0 < n → n ≡ 0 → ⊥
          no n h e = omega arith
      first (suc b) n h e = omega arith

      by : Located relays p q n → IsEntered q n
      by (at_place b k e) = subst (IsEntered q) (sym e) (place_entered b (a.well.each_entered b (first b n z e) k))
      by (at_relay b r c k s e i) = subst (IsEntered q) (sym e) (relay_entered b r c k s)

  -- ---- the first block isn't entered

  follow_here : (n m : ℕ) → MayFollow q n m → n < length q.blocks
  follow_here n m (mf.jumped c tg i h x e) = holds_there q n i h
  follow_here n m (mf.branched_eq c rs rt imm i h x e) = holds_there q n i h
  follow_here n m (mf.branched_ne c rs rt imm i h x e) = holds_there q n i h
  follow_here n m (mf.fallen_eq c rs rt imm i h x e) = holds_there q n i h
  follow_here n m (mf.fallen_ne c rs rt imm i h x e) = holds_there q n i h
  follow_here n m (mf.called f c h e) = holds_there q n h.item h.holds
  follow_here n m (mf.returned f d rs i h x o c) = holds_there q n i h

  goal_first : (b t : ℕ) (r : Relays) (c : Close) → 0 ≡ goal_place (place_of relays) b r t → t ≡ 0
  goal_first b t Nothing c e = place_once relays t 0 (sym e)
  goal_first b t Next c e = place_once relays t 0 (sym e)
  goal_first b t (Turned u) c e = absurd (zero_not b (place_once relays 0 (b + 1) e))
  goal_first b t (Both u) c e = absurd (no (place_of relays b) e)
    where
      no : (a : ℕ) → 0 ≡ a + 2 → ⊥
      no a e = omega arith

  place_first : (b : ℕ) (r : Relays) (c : Close) → Leads q (place_of relays b) (put_close (place_of relays) b r c) 0 → Leads p b c 0
  place_first b r (Jump t) h = sym (goal_first b t r (Jump t) h)
  place_first b r (Branch checked m when t) (inl h) = inl (sym (goal_first b t r (Jump t) h))
  place_first b r (Branch checked m when t) (inr h) = absurd (zero_not (place_of relays b) h)
  place_first b r (Call f) h =
      let x : (x : ℕ) × (slice_get p.entries f ≡ Some x) × (0 ≡ place_of relays x) = got_map (place_of relays) p.entries f 0 (sym (ap (λ (z : List ℕ). slice_get z f) a.has.entries) ∙ h) in
      subst (λ (z : ℕ). slice_get p.entries f ≡ Some z) (place_once relays x.0 0 (sym x.2)) x.1
  place_first b r (Return checked) h = absurd (zero_not h.1.0 h.1.1.1.1)
  place_first b r (Exit checked) h = h

  pub first_not_entered : (n : ℕ) → MayFollow q n 0 → ⊥
  first_not_entered n f = by (located relays p q a.has n (follow_here n 0 f))
    where
      by : Located relays p q n → ⊥
      by (at_place b l e) = a.well.first_not_entered b (follows p b 0 (a.formed b l) (place_first b (relays b) ((a.formed b l).close) (place_leads b 0 l (subst (λ (z : ℕ). MayFollow q z 0) e f))))
      by (at_relay b r c l s e i) =
          let z : c ≡ 0 = place_once relays c 0 (sym (relay_leads n (place_of relays c) 0 i f)) in
          elim (goal_is b r c (relays b) ((a.formed b l).close) (a.puts b l) s) [
            | inl g ↦ zero_not b (sym z ∙ g)
            | inr g ↦ a.well.first_not_entered b (follows p b 0 (a.formed b l) (branch_leads p b 0 ((a.formed b l).close) (subst (BranchesTo ((a.formed b l).close)) z g)))
          ]
