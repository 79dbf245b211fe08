-- The run with heads through the head of a block: six quiet steps that change the registers of the signatures alone.
use Rattle.std.proofs.Common.{◌≡◌, ◌≢◌, ℕ, zero, suc, ◌+◌, ◌<◌, arith, rules, ap, refl, sym, ◌∙◌, subst, List, [], ◌∷◌, ◌++◌, length, get_or, false, true, Bool, cond, inl, inr}
use Rattle.std.specs.Prelude.{Option, Some, None, ◌⊎◌, ◌==◌, slice_index, slice_get, bit_or, bit_xor, if◌then◌else◌}
use Rattle.hard_runs.specs.Stepping.{Stepper, Quiet, Leads}
use Rattle.hard_runs.proofs.Following.{leads_on}
use Rattle.mips_isa.specs.declared.instr.Instr.TheVariants.{Xori, Xor, Ori, Beq, Break, Sll}
use Rattle.mips_isa.specs.declared.instr.Act.{Act}
use Rattle.mips_isa.specs.declared.instr.Act.TheVariants.{Pass}
use Rattle.mips_isa.specs.declared.instr.End.{End}
use Rattle.mips_isa.specs.Machine.{State, act, perform, written, branch}
use Rattle.mips_faults.specs.Beside.{SameKept}
use Rattle.lint_theorem.proofs.Ground.{written_here, written_there, written_zero, written_long}
use Rattle.hard_items.specs.declared.code.Class.TheVariants.{Head}
use Rattle.hard_items.specs.declared.code.Item.{Item}
use Rattle.hard_items.specs.declared.code.HardBlock.{HardBlock}
use Rattle.hard_items.specs.declared.code.HardProgram.{HardProgram}
use Rattle.hard_items.specs.declared.code.Mark.{Mark}
use Rattle.hard_items.specs.declared.code.Signed.{Signed}
use Rattle.hard_items.specs.Streams.{nop, plain}
use Rattle.hard_items.specs.Run.{Data, Spot, Way, Onward, Over, To, items, items_of, block_items, machine_of, held, marked, marked_reg, do_item, item_act, way_of, at_block, numbered, completed, settled}
use Rattle.hard_items.specs.Heads.{headed, head_items, with_heads}
use Rattle.signature_assign.specs.Headed.{IsSign, mark_at, found, with_other, Near, Stands, in_head}
use Rattle.signature_assign.proofs.Near.{Free}
use Rattle.signature_assign.proofs.Step.{Kept, at_rest}

-- The items of a block with its head.

abbrev no_mark : Mark
no_mark = record { s = 0; d = 0; fan = false; adjust = 0 }

headed_by : (bs : List HardBlock) (ms : List Mark) (t : ℕ) → length ms ≡ length bs → t < length bs → block_items (slice_get (with_heads bs ms) t) ≡ head_items (get_or ms t no_mark) ++ block_items (slice_get bs t)
headed_by [] ms t e h = absurd (omega arith)
headed_by (b ∷ bs) [] t e h = absurd (omega arith)
headed_by (b ∷ bs) (m ∷ ms) zero e h = refl
headed_by (b ∷ bs) (m ∷ ms) (suc t) e h = headed_by bs ms t (omega arith) (omega arith)

pub headed_items : (s : Signed) (t : ℕ) → length s.marks ≡ length s.program.blocks → t < length s.program.blocks → items_of (headed s) t ≡ head_items (mark_at s t) ++ items_of s.program t
headed_items s t e h = headed_by s.program.blocks s.marks t e h

-- A write of a register of the signatures.

abbrev pub wrote : Data → ℕ → ℕ → Data
wrote d r v = record d { regs = written d.regs r v; backs = marked_reg d.backs r false }

other_number : (q r : ℕ) → q ≢ r → (q == r) ≡ false
other_number q r n = grind arith

marked_other : (f : ℕ → Bool) (r q : ℕ) → q ≢ r → marked_reg f r false q ≡ f q
marked_other f r q n = by_zero (r == 0)
  where
    by_zero : (z : Bool) → (cond z f (marked f r false)) q ≡ f q
    by_zero true = refl
    by_zero false = rw (other_number q r n) refl

near_wrote : (h d : Data) (r v : ℕ) → IsSign r → Near h d → Near h (wrote d r v)
near_wrote h d r v k n = record {
  regs = written n.regs r v;
  backs = marked_reg n.backs r false;
  stored = n.stored;
  is = ap (λ (z : Data). wrote z r v) n.is;
  same = record { len = n.same.len ∙ sym (written_long n.regs r v); same = λ q f. n.same.same q f ∙ sym (written_there n.regs r v q (λ e. f (subst IsSign (sym e) k))) };
  same_backs = λ q f. n.same_backs q f ∙ sym (marked_other n.backs r q (λ e. f (subst IsSign (sym e) k)));
  same_stored = n.same_stored;
}

-- near data, with what registers 24 and 28 hold; the first step of a head needs no more
pub record Held (h d : Data) (g a : ℕ) : Type 0 where
  pub near : Near h d
  pub long : length d.regs ≡ 32
  pub zero : held d 0 ≡ 0
  pub four : held d 24 ≡ g
  pub eight : held d 28 ≡ a

sign_1 : IsSign 1
sign_1 = inl refl

sign_24 : IsSign 24
sign_24 = inr (inl refl)

sign_28 : IsSign 28
sign_28 = inr (inr refl)

held_24 : (h d : Data) (g a v : ℕ) → Held h d g a → Held h (wrote d 24 v) v a
held_24 h d g a v k = record {
  near = near_wrote h d 24 v sign_24 k.near;
  long = written_long d.regs 24 v ∙ k.long;
  zero = written_zero d.regs 24 v ∙ k.zero;
  four = written_here d.regs 24 v (omega arith) (omega (arith, k.long));
  eight = written_there d.regs 24 v 28 (omega arith) ∙ k.eight;
}

held_1 : (h d : Data) (g a v : ℕ) → Held h d g a → Held h (wrote d 1 v) g a × (held (wrote d 1 v) 1 ≡ v)
held_1 h d g a v k = (
  record {
    near = near_wrote h d 1 v sign_1 k.near;
    long = written_long d.regs 1 v ∙ k.long;
    zero = written_zero d.regs 1 v ∙ k.zero;
    four = written_there d.regs 1 v 24 (omega arith) ∙ k.four;
    eight = written_there d.regs 1 v 28 (omega arith) ∙ k.eight;
  },
  written_here d.regs 1 v (omega arith) (omega (arith, k.long)),
)

held_28 : (h d : Data) (g a v : ℕ) → Held h d g a → Held h (wrote d 28 v) g v
held_28 h d g a v k = record {
  near = near_wrote h d 28 v sign_28 k.near;
  long = written_long d.regs 28 v ∙ k.long;
  zero = written_zero d.regs 28 v ∙ k.zero;
  four = written_there d.regs 28 v 24 (omega arith) ∙ k.four;
  eight = written_here d.regs 28 v (omega arith) (omega (arith, k.long));
}

-- The steps of a head.

-- six quiet steps lead through the head of a block
pub record Through (p : HardProgram) (G : Spot → Type 0) (b : ℕ) (m : Mark) (i : Item) (more : List Item) (h d : Data) : Type 0 where
  pub now : Data
  pub leads : Leads (items p) G 6 (at_rest b (head_items m ++ (i ∷ more)) Onward d) (at_rest b (i ∷ more) Onward now)
  pub kept : Kept h now m.s m.adjust

module _ (p : HardProgram) (G : Spot → Type 0) (good : (l : Spot) (w : Item) (more : List Item) → l.rest ≡ w ∷ more → w.class ≡ Head → G l) where
  one : (b : ℕ) (w : Item) (more : List Item) (y : Way) (d : Data) (t : Spot) → w.class ≡ Head → (items p).step (at_rest b (w ∷ more) y d) ≡ (t, None) → Leads (items p) G 1 (at_rest b (w ∷ more) y d) t
  one b w more y d t c e = (record { open_ = refl; good = good (at_rest b (w ∷ more) y d) w more refl c; silent = ap (λ (z : Spot × Option ℕ). z.1) e }, ap (λ (z : Spot × Option ℕ). z.0) e)

  first : (b k : ℕ) (next : Item) (more : List Item) (d : Data) → Leads (items p) G 1 (at_rest b (plain (Xori 24 24 k) Head ∷ next ∷ more) Onward d) (at_rest b (next ∷ more) Onward (wrote d 24 (bit_xor (held d 24) k)))
  first b k next more d = one b (plain (Xori 24 24 k) Head) (next ∷ more) Onward d (at_rest b (next ∷ more) Onward (wrote d 24 (bit_xor (held d 24) k))) refl refl

  abbrev adjusted : Bool → Data → Data
  adjusted fan d = if fan then wrote d 24 (bit_xor (held d 24) (held d 28)) else d

  second : (b : ℕ) (fan : Bool) (next : Item) (more : List Item) (d : Data) → Leads (items p) G 1 (at_rest b (plain (if fan then Xor 24 24 28 else nop) Head ∷ next ∷ more) Onward d) (at_rest b (next ∷ more) Onward (adjusted fan d))
  second b true next more d = one b (plain (Xor 24 24 28) Head) (next ∷ more) Onward d (at_rest b (next ∷ more) Onward (adjusted true d)) refl refl
  second b false next more d = one b (plain nop Head) (next ∷ more) Onward d (at_rest b (next ∷ more) Onward d) refl refl

  puts : (b r k : ℕ) (next : Item) (more : List Item) (d : Data) → Leads (items p) G 1 (at_rest b (plain (Ori r 0 k) Head ∷ next ∷ more) Onward d) (at_rest b (next ∷ more) Onward (wrote d r (bit_or (held d 0) k)))
  puts b r k next more d = one b (plain (Ori r 0 k) Head) (next ∷ more) Onward d (at_rest b (next ∷ more) Onward (wrote d r (bit_or (held d 0) k))) refl refl

  -- the comparison, which holds, and the nop behind it, which goes over the break
  compares : (b : ℕ) (next : Item) (more : List Item) (d : Data) → held d 24 ≡ held d 1 → Leads (items p) G 1 (at_rest b (plain (Beq 24 1 2) Head ∷ next ∷ more) Onward d) (at_rest b (next ∷ more) Over d)
  compares b next more d e = one b w (next ∷ more) Onward d (at_rest b (next ∷ more) Over d) refl (ap (λ (a : Act). do_item p (at_rest b (w ∷ next ∷ more) Onward d) w (next ∷ more) a) is_pass ∙ ap (λ (y : Way). let z : Spot × Option ℕ = (at_rest b (next ∷ more) y d, None) in z) is_over)
    where
      same_numbers : (x y : ℕ) → x ≡ y → (x == y) ≡ true
      same_numbers x y e = grind arith

      w : Item
      w = plain (Beq 24 1 2) Head

      test : (held d 24 == held d 1) ≡ true
      test = same_numbers (held d 24) (held d 1) e

      is_pass : item_act b w d ≡ Pass
      is_pass = ap (λ (z : Bool). numbered b (branch z (machine_of d) 2)) test

      is_over : way_of p w d (Beq 24 1 2) ≡ Over
      is_over = ap (λ (z : Bool). if z then Over else Onward) test

  passes_over : (b : ℕ) (i : Item) (more : List Item) (d : Data) → Leads (items p) G 1 (at_rest b (plain nop Head ∷ plain (Break 2) Head ∷ i ∷ more) Over d) (at_rest b (i ∷ more) Onward d)
  passes_over b i more d = one b (plain nop Head) (plain (Break 2) Head ∷ i ∷ more) Over d (at_rest b (i ∷ more) Onward d) refl refl

  held_adjusted : (h d : Data) (g a : ℕ) (fan : Bool) → Held h d g a → Held h (adjusted fan d) (if fan then bit_xor g a else g) a
  held_adjusted h d g a true k = subst (λ (v : ℕ). Held h (wrote d 24 (bit_xor (held d 24) (held d 28))) v a) (ap (λ (x : ℕ). bit_xor x (held d 28)) k.four ∙ ap (λ (x : ℕ). bit_xor g x) k.eight) (held_24 h d g a (bit_xor (held d 24) (held d 28)) k)
  held_adjusted h d g a false k = k

  puts_number : (b r k : ℕ) (next : Item) (more : List Item) (d : Data) → held d 0 ≡ 0 → Leads (items p) G 1 (at_rest b (plain (Ori r 0 k) Head ∷ next ∷ more) Onward d) (at_rest b (next ∷ more) Onward (wrote d r k))
  puts_number b r k next more d e = subst (λ (v : ℕ). Leads (items p) G 1 (at_rest b (plain (Ori r 0 k) Head ∷ next ∷ more) Onward d) (at_rest b (next ∷ more) Onward (wrote d r v))) (zero_or e) (puts b r k next more d)
    where
      zero_or : held d 0 ≡ 0 → bit_or (held d 0) k ≡ k
      zero_or e = rw e refl

  pub through : (b : ℕ) (m : Mark) (i : Item) (more : List Item) (h d : Data) (g a : ℕ) → Held h d g a → found g a m ≡ m.s → Through p G b m i more h d
  through b m i more h d g a k f =
      let w2 : Item = plain (if m.fan then Xor 24 24 28 else nop) Head in
      let w3 : Item = plain (Ori 1 0 m.s) Head in
      let w4 : Item = plain (Ori 28 0 m.adjust) Head in
      let w5 : Item = plain (Beq 24 1 2) Head in
      let w6 : Item = plain nop Head in
      let w7 : Item = plain (Break 2) Head in
      let end : List Item = i ∷ more in
      let v : ℕ = bit_xor g m.d in
      let d1 : Data = wrote d 24 (bit_xor (held d 24) m.d) in
      let d2 : Data = adjusted m.fan d1 in
      let d3 : Data = wrote d2 1 m.s in
      let d4 : Data = wrote d3 28 m.adjust in
      let k1 : Held h d1 v a = subst (λ (x : ℕ). Held h d1 (bit_xor x m.d) a) k.four (held_24 h d g a (bit_xor (held d 24) m.d) k) in
      let k2 : Held h d2 (if m.fan then bit_xor v a else v) a = held_adjusted h d1 v a m.fan k1 in
      let k3 : Held h d3 (if m.fan then bit_xor v a else v) a × (held d3 1 ≡ m.s) = held_1 h d2 (if m.fan then bit_xor v a else v) a m.s k2 in
      let k4 : Held h d4 (if m.fan then bit_xor v a else v) m.adjust = held_28 h d3 (if m.fan then bit_xor v a else v) a m.adjust k3.0 in
      let equal : held d4 24 ≡ held d4 1 = k4.four ∙ (f ∙ (sym k3.1 ∙ sym (written_there d3.regs 28 m.adjust 1 (omega arith)))) in
      let l0 : Spot = at_rest b (head_items m ++ end) Onward d in
      let l1 : Spot = at_rest b (w2 ∷ w3 ∷ w4 ∷ w5 ∷ w6 ∷ w7 ∷ end) Onward d1 in
      let l2 : Spot = at_rest b (w3 ∷ w4 ∷ w5 ∷ w6 ∷ w7 ∷ end) Onward d2 in
      let l3 : Spot = at_rest b (w4 ∷ w5 ∷ w6 ∷ w7 ∷ end) Onward d3 in
      let l4 : Spot = at_rest b (w5 ∷ w6 ∷ w7 ∷ end) Onward d4 in
      let l5 : Spot = at_rest b (w6 ∷ w7 ∷ end) Over d4 in
      let l6 : Spot = at_rest b end Onward d4 in
      let s1 : Leads (items p) G 1 l0 l1 = first b m.d w2 (w3 ∷ w4 ∷ w5 ∷ w6 ∷ w7 ∷ end) d in
      let s2 : Leads (items p) G 1 l1 l2 = second b m.fan w3 (w4 ∷ w5 ∷ w6 ∷ w7 ∷ end) d1 in
      let s3 : Leads (items p) G 1 l2 l3 = puts_number b 1 m.s w4 (w5 ∷ w6 ∷ w7 ∷ end) d2 k2.zero in
      let s4 : Leads (items p) G 1 l3 l4 = puts_number b 28 m.adjust w5 (w6 ∷ w7 ∷ end) d3 k3.0.zero in
      let s5 : Leads (items p) G 1 l4 l5 = compares b w6 (w7 ∷ end) d4 equal in
      let s6 : Leads (items p) G 1 l5 l6 = passes_over b i more d4 in
      let t2 : Leads (items p) G 2 l0 l2 = leads_on (items p) G 1 1 l0 l1 l2 s1 s2 in
      let t3 : Leads (items p) G 3 l0 l3 = leads_on (items p) G 2 1 l0 l2 l3 t2 s3 in
      let t4 : Leads (items p) G 4 l0 l4 = leads_on (items p) G 3 1 l0 l3 l4 t3 s4 in
      let t5 : Leads (items p) G 5 l0 l5 = leads_on (items p) G 4 1 l0 l4 l5 t4 s5 in
      record { now = d4; leads = leads_on (items p) G 5 1 l0 l5 l6 t5 s6; kept = record { near = k4.near; long = k4.long; zero = k4.zero; sign = k4.four ∙ f; adjust = k4.eight } }
