-- One item in both runs: they go on at one item, or both enter one block, or both end alike.
use Rattle.std.proofs.Common.{◌≡◌, ◌≢◌, ℕ, ◌+◌, ◌<◌, arith, rules, ap, refl, sym, ◌∙◌, subst, List, [], ◌∷◌, length, false, true, Bool, cond, inl, inr}
use Rattle.std.specs.Prelude.{Option, Some, None, ◌⊎◌, ◌==◌, slice_index, if◌then◌else◌}
use Rattle.hard_runs.specs.Stepping.{Stepper}
use Rattle.mips_isa.specs.declared.instr.Instr.{Instr}
use Rattle.mips_isa.specs.declared.instr.Instr.TheVariants.{J, Jal, Jr, Beq, Bne, Sw}
use Rattle.mips_isa.specs.declared.instr.Act.{Act}
use Rattle.mips_isa.specs.declared.instr.Act.TheVariants as act
use Rattle.mips_isa.specs.declared.instr.End.{End}
use Rattle.mips_isa.specs.Machine.{State, perform, place, among, reads_of}
use Rattle.mips_faults.specs.Beside.{SameKept}
use Rattle.hard_items.specs.declared.code.Fix.{Fix}
use Rattle.hard_items.specs.declared.code.Fix.TheVariants.{Plain, Block, Function, ReturnHigh, ReturnLow}
use Rattle.hard_items.specs.declared.code.Item.{Item}
use Rattle.hard_items.specs.declared.code.HardProgram.{HardProgram}
use Rattle.hard_items.specs.declared.code.Mark.{Mark}
use Rattle.hard_items.specs.declared.code.Signed.{Signed}
use Rattle.hard_items.specs.Run.{Data, Spot, Way, Onward, Over, To, items, item_act, machine_of, way_of, branch_way, named, held, marked, marked_reg, makes_number, value_of, backs_after, stored_after, data_after, arrived, settled, at_block, before}
use Rattle.hard_items.specs.Ways.{MayFollow}
use Rattle.hard_items.specs.Heads.{headed}
use Rattle.signature_assign.specs.Headed.{IsSign, Spares, Legal, mark_at, found, HeadsPass, IsClosed, with_other, Near, Level}
use Rattle.signature_assign.proofs.Near.{Free, free_zero, After, perform_near, item_near, item_clear, spares_read, among_here, or_right}

-- how the two runs stand: at one item, or both at the start of a block whose head will pass
pub data Rel (s : Signed) (h l : Spot) : Type 0 where
  inside : Level s h l → Rel s h l
  entering : (t : ℕ) (d e : Data) → h ≡ at_block s.program t d → l ≡ at_block (headed s) t e → t < length s.program.blocks → Near d e → length e.regs ≡ 32 → held e 0 ≡ 0 → found (held e 24) (held e 28) (mark_at s t) ≡ (mark_at s t).s → Rel s h l

-- what two steps leave
pub data Stepped (s : Signed) (x y : Spot × Option ℕ) : Type 0 where
  on : Rel s x.0 y.0 → y.1 ≡ x.1 → Stepped s x y
  over : (e : End) → x.0.end ≡ Some e → y.0.end ≡ Some e → y.1 ≡ x.1 → Stepped s x y

-- Marks of return numbers.

marked_same : (f g : ℕ → Bool) (r q : ℕ) (a b : Bool) → f q ≡ g q → a ≡ b → marked f r a q ≡ marked g r b q
marked_same f g r q a b e k = elim (q == r) as (λ z. cond z a (f q) ≡ cond z b (g q)) [ true ↦ k | false ↦ e ]

marked_reg_same : (f g : ℕ → Bool) (r q : ℕ) (a b : Bool) → f q ≡ g q → a ≡ b → marked_reg f r a q ≡ marked_reg g r b q
marked_reg_same f g r q a b e k = by_zero (r == 0)
  where
    by_zero : (z : Bool) → (cond z f (marked f r a)) q ≡ (cond z g (marked g r b)) q
    by_zero true = e
    by_zero false = marked_same f g r q a b e k

backs_same : (i : Item) (a : Act) (d : Data) (r : List ℕ) (x y : ℕ → Bool) (q : ℕ) → d.backs q ≡ x q → ((p : ℕ) → d.stored p ≡ y p) → backs_after i a d q ≡ backs_after i a (with_other d r x y) q
backs_same i (act.Write p v) d r x y q e f = marked_reg_same d.backs x p q (makes_number i) (makes_number i) e refl
backs_same i (act.Move p v) d r x y q e f = marked_reg_same d.backs x p q false false e refl
backs_same i (act.Both h l) d r x y q e f = e
backs_same i (act.Load p a) d r x y q e f = marked_reg_same d.backs x p q (d.stored (place a)) (y (place a)) e (f (place a))
backs_same i (act.Store a v) d r x y q e f = e
backs_same i (act.Go to) d r x y q e f = e
backs_same i (act.Link to) d r x y q e f = e
backs_same i act.Pass d r x y q e f = e
backs_same i act.Service d r x y q e f = marked_reg_same d.backs x 2 q false false e refl
backs_same i (act.Stop k) d r x y q e f = e

stored_same : (i : Item) (a : Act) (d : Data) (r : List ℕ) (x y : ℕ → Bool) (q : ℕ) → d.backs (value_of i.instr) ≡ x (value_of i.instr) → ((p : ℕ) → d.stored p ≡ y p) → stored_after i a d q ≡ stored_after i a (with_other d r x y) q
stored_same i (act.Write p v) d r x y q e f = f q
stored_same i (act.Move p v) d r x y q e f = f q
stored_same i (act.Both h l) d r x y q e f = f q
stored_same i (act.Load p a) d r x y q e f = f q
stored_same i (act.Store a v) d r x y q e f = marked_same d.stored y (place a) q (d.backs (value_of i.instr)) (x (value_of i.instr)) (f q) e
stored_same i (act.Go to) d r x y q e f = f q
stored_same i (act.Link to) d r x y q e f = f q
stored_same i act.Pass d r x y q e f = f q
stored_same i act.Service d r x y q e f = f q
stored_same i (act.Stop k) d r x y q e f = f q

value_free : (x : Instr) → ((q : ℕ) → among q (reads_of x) ≡ true → Free q) → Free (value_of x)
value_free (Sw rt rs imm) f = f rt (among_here rt (rs ∷ []))
value_free _ f = free_zero

-- Ways.

named_same : (s : Signed) (f : Fix) → named (headed s) f ≡ named s.program f
named_same s Plain = refl
named_same s (Block t) = refl
named_same s (Function f) = refl
named_same s ReturnHigh = refl
named_same s ReturnLow = refl

two_among : (x y : ℕ) → among y (x ∷ y ∷ []) ≡ true
two_among x y = or_right (y == x) (among y (y ∷ [])) (among_here y [])

equal_way : (d : Data) (r : List ℕ) (u v : ℕ) (a b : Way) → held d u ≡ slice_index r u → held d v ≡ slice_index r v → (if slice_index r u == slice_index r v then a else b) ≡ (if held d u == held d v then a else b)
equal_way d r u v a b e f = rw (e, f) refl

way_same : (s : Signed) (i : Item) (d : Data) (r : List ℕ) (x y : ℕ → Bool) (k : Instr) → ((q : ℕ) → among q (reads_of k) ≡ true → held d q ≡ slice_index r q) → way_of (headed s) i (with_other d r x y) k ≡ way_of s.program i d k
way_same s i d r x y (J target) f = ap (λ (n : ℕ). To n) (named_same s i.fix)
way_same s i d r x y (Jal target) f = ap (λ (n : ℕ). To n) (named_same s i.fix)
way_same s i d r x y (Jr rs) f = ap (λ (n : ℕ). To n) (sym (f rs (among_here rs [])))
way_same s i d r x y (Beq u v imm) f = equal_way d r u v (branch_way i.fix) Onward (f u (among_here u (v ∷ []))) (f v (two_among u v))
way_same s i d r x y (Bne u v imm) f = equal_way d r u v Onward (branch_way i.fix) (f u (among_here u (v ∷ []))) (f v (two_among u v))
way_same s i d r x y _ f = refl

-- The data behind an item.

-- near data, with what the registers of the signatures hold in the second
pub record Kept (h l : Data) (g a : ℕ) : Type 0 where
  pub near : Near h l
  pub long : length l.regs ≡ 32
  pub zero : held l 0 ≡ 0
  pub sign : held l 24 ≡ g
  pub adjust : held l 28 ≡ a

arrives_at : (s : Signed) (b t : ℕ) (h l : Data) → HeadsPass s → IsClosed s.program → MayFollow s.program b t → Kept h l (mark_at s b).s (mark_at s b).adjust → Rel s (at_block s.program t h) (at_block (headed s) t l)
arrives_at s b t h l hp c m k = entering t h l refl refl (c.there b t m) k.near k.long k.zero
    (ap (λ (x : ℕ). found x (held l 28) (mark_at s t)) k.sign ∙ (ap (λ (x : ℕ). found (mark_at s b).s x (mark_at s t)) k.adjust ∙ hp.edge b t m))

arrives : (s : Signed) (b : ℕ) (w own : Way) (more : List Item) (h l : Data) → HeadsPass s → IsClosed s.program → Legal s.program b w own more → Kept h l (mark_at s b).s (mark_at s b).adjust → Rel s (arrived s.program w own b more h) (arrived (headed s) w own b more l)
arrives s b Onward own [] h l hp c g k =
    subst (λ (z : Way). Rel s (before s.program b [] z h) (before (headed s) b [] z l)) (sym g.0) (arrives_at s b (b + 1) h l hp c g.1 k)
arrives s b Onward own (i ∷ more) h l hp c g k = inside (record { block = refl; rest = refl; way = refl; going = refl; open_ = refl; near = k.near; long = k.long; zero = k.zero; sign = k.sign; adjust = k.adjust })
arrives s b Over own [] h l hp c g k = arrives_at s b (b + 1) h l hp c g k
arrives s b Over own (i ∷ []) h l hp c g k = arrives_at s b (b + 1) h l hp c g k
arrives s b Over own (i ∷ j ∷ more) h l hp c g k = inside (record { block = refl; rest = refl; way = refl; going = refl; open_ = refl; near = k.near; long = k.long; zero = k.zero; sign = k.sign; adjust = k.adjust })
arrives s b (To t) own more h l hp c g k = arrives_at s b t h l hp c g k

-- One item in both.

abbrev pub at_rest : ℕ → List Item → Way → Data → Spot
at_rest b rest w d = record { block = b; rest = rest; way = w; now = d; end = None }

settles : (s : Signed) (b : ℕ) (i : Item) (more : List Item) (w : Way) (d : Data) (r : List ℕ) (x y : ℕ → Bool) (a : Act) (X Y : State × Option ℕ) (A : After X Y r) → HeadsPass s → IsClosed s.program → Spares i → Kept d (with_other d r x y) (mark_at s b).s (mark_at s b).adjust → SameKept Free d.regs r → ((q : ℕ) → Free q → d.backs q ≡ x q) → ((q : ℕ) → d.stored q ≡ y q) → (o : Option End) → X.0.end ≡ o → (X.0.end ≡ None → Legal s.program b w (way_of s.program i d i.instr) more) → Stepped s (settled s.program (at_rest b (i ∷ more) w d) i more a X o) (settled (headed s) (at_rest b (i ∷ more) w (with_other d r x y)) i more a Y o)
settles s b i more w d r x y a X Y A hp c sp k same back store (Some e) h f = over e refl refl refl
settles s b i more w d r x y a X Y A hp c sp k same back store None h f =
    let l : Data = with_other d r x y in
    let D : Data = data_after i a d X.0 in
    let E : Data = with_other D A.regs (backs_after i a l) (stored_after i a l) in
    let sign_24 : IsSign 24 = inr (inl refl) in
    let sign_28 : IsSign 28 = inr (inr refl) in
    let kept : Kept D E (mark_at s b).s (mark_at s b).adjust = record {
      near = record {
        regs = A.regs;
        backs = backs_after i a l;
        stored = stored_after i a l;
        is = refl;
        same = A.same;
        same_backs = λ q n. backs_same i a d r x y q (back q n) store;
        same_stored = λ q. stored_same i a d r x y q (back (value_of i.instr) (value_free i.instr (λ p e. spares_read i p sp e))) store;
      };
      long = A.long ∙ k.long;
      zero = A.zero ∙ k.zero;
      sign = A.kept 24 sign_24 ∙ k.sign;
      adjust = A.kept 28 sign_28 ∙ k.adjust;
    } in
    let way : way_of (headed s) i l i.instr ≡ way_of s.program i d i.instr = way_same s i d r x y i.instr (λ q e. same.same q (spares_read i q sp e)) in
    let go : Rel s (arrived s.program w (way_of s.program i d i.instr) b more D) (arrived (headed s) w (way_of s.program i d i.instr) b more E) = arrives s b w (way_of s.program i d i.instr) more D E hp c (f h) kept in
    let P : State × Option ℕ → Type 0 = λ Z. Stepped s (arrived s.program w (way_of s.program i d i.instr) b more D, X.1) (arrived (headed s) w (way_of (headed s) i l i.instr) b more (data_after i a l Z.0), Z.1) in
    subst P (sym A.is) (on (subst (λ (z : Way). Rel s (arrived s.program w (way_of s.program i d i.instr) b more D) (arrived (headed s) w z b more E)) (sym way) go) refl)

pub item_steps : (s : Signed) (b : ℕ) (i : Item) (more : List Item) (w : Way) (d e : Data) → HeadsPass s → IsClosed s.program → Spares i → Kept d e (mark_at s b).s (mark_at s b).adjust → ((perform (item_act b i d) (machine_of d)).0.end ≡ None → Legal s.program b w (way_of s.program i d i.instr) more) → Stepped s ((items s.program).step (at_rest b (i ∷ more) w d)) ((items (headed s)).step (at_rest b (i ∷ more) w e))
item_steps s b i more w d e hp c sp k f =
    let n : Near d e = k.near in
    let a : Act = item_act b i d in
    let l : Data = with_other d n.regs n.backs n.stored in
    let A : After (perform a (machine_of d)) (perform a (machine_of l)) n.regs = perform_near a (machine_of d) n.regs n.same (item_clear b i d sp) in
    let same_end : (perform a (machine_of l)).0.end ≡ (perform a (machine_of d)).0.end = ap (λ (z : State × Option ℕ). z.0.end) A.is in
    let kl : Kept d l (mark_at s b).s (mark_at s b).adjust = subst (λ (z : Data). Kept d z (mark_at s b).s (mark_at s b).adjust) n.is k in
    let both : Stepped s (settled s.program (at_rest b (i ∷ more) w d) i more a (perform a (machine_of d)) (perform a (machine_of d)).0.end) (settled (headed s) (at_rest b (i ∷ more) w l) i more a (perform a (machine_of l)) (perform a (machine_of d)).0.end) =
    settles s b i more w d n.regs n.backs n.stored a (perform a (machine_of d)) (perform a (machine_of l)) A hp c sp kl n.same n.same_backs n.same_stored (perform a (machine_of d)).0.end refl f in
    let ended : Stepped s (settled s.program (at_rest b (i ∷ more) w d) i more a (perform a (machine_of d)) (perform a (machine_of d)).0.end) (settled (headed s) (at_rest b (i ∷ more) w l) i more a (perform a (machine_of l)) (perform a (machine_of l)).0.end) =
    subst (λ (z : Option End). Stepped s (settled s.program (at_rest b (i ∷ more) w d) i more a (perform a (machine_of d)) (perform a (machine_of d)).0.end) (settled (headed s) (at_rest b (i ∷ more) w l) i more a (perform a (machine_of l)) z)) (sym same_end) both in
    subst (λ (z : Data). Stepped s ((items s.program).step (at_rest b (i ∷ more) w d)) ((items (headed s)).step (at_rest b (i ∷ more) w z))) (sym n.is)
    (subst (λ (z : Act). Stepped s ((items s.program).step (at_rest b (i ∷ more) w d)) (settled (headed s) (at_rest b (i ∷ more) w l) i more z (perform z (machine_of l)) (perform z (machine_of l)).0.end)) (item_near b i d n.regs n.backs n.stored sp n.same) ended)
