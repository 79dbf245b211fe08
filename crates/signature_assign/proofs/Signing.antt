-- From a program to all that its numbers are made of, and from these to the numbers.
use Rattle.std.proofs.Common.{◌≡◌, ◌≢◌, ◌≤◌, ◌<◌, ℕ, ◌+◌, ◌^◌, arith, ap, refl, sym, ◌∙◌, subst, List, [], ◌∷◌, ◌++◌, length, length-append, map, get_or, true, false, Bool, inl, inr}
use Rattle.std.specs.Prelude.{Option, Some, None, slice_get, slice_index, slice_index_or, bit_xor}
use Rattle.std.specs.List.{All, Contains}
use Rattle.std.proofs.lemmas.Bool.{cases_lt, both_ways, false_from_ne_true}
use Rattle.std.proofs.lemmas.List.{get_or_past, get_or_read, get_or_append_left, get_or_push}
use Rattle.mips_text.specs.Blocks.{Head}
use Rattle.hard_items.specs.declared.code.HardBlock.{HardBlock}
use Rattle.hard_items.specs.declared.code.HardProgram.{HardProgram}
use Rattle.hard_items.specs.declared.code.Mark.{Mark}
use Rattle.hard_items.specs.WellFormed.{WellFormed}
use Rattle.sign_law.specs.Graph.{IsSucc, HasTwo}
use Rattle.sign_law.specs.Signs.{IsBase, IsReached, joined, led, entered, Leaves, adjusts, rests, IsSigned, AreLabels, AreFirst, AreSigned, head_at}
use Rattle.sign_law.specs.Search.{label_at}
use Rattle.sign_law.specs.Marks.{successors_of, head_of, HasSigns}
use Rattle.sign_law.proofs.Labels.{base_of}
use Rattle.signature_assign.specs.Settle.{IsGraph}
use Rattle.signature_assign.specs.Edges.{AreEdges, IsKnown, AreMarked, backward, twos, first_before}
use Rattle.signature_assign.proofs.Premises.{succ_follows, follower_there, successors_at, long_map, mapped, within}
use Rattle.signature_assign.proofs.Backward.{in_range, graph_of, two_long, first_of, at_most_one, at_in, two_of, all_of}
use Rattle.sign_law.proofs.Groups.{right_two}
use Rattle.std.proofs.lemmas.List.Elements.{All-contains}

none_at : (c k : ℕ) → slice_get [] k ≡ Some c → ⊥
none_at c k e = cc

-- the edges of a well formed program
pub edges_of : (p : HardProgram) → WellFormed p → AreEdges (successors_of p)
edges_of p f = record {
  within = λ u w c.
      let l : u < length p.blocks = omega (arith, in_range (successors_of p) u w c, long_map p.blocks) in
      omega (arith, follower_there p u w f (succ_follows p u w f l c), long_map p.blocks);
  ascend = λ u k c d a b. elim (cases_lt u (length p.blocks)) [
    | inl l ↦
        let t = within p.blocks u l in
        let e = successors_at p.blocks u t.0 t.1 in
        f.successors_ascend u k c d t.0 t.1 (subst (λ (xs : List ℕ). slice_get xs k ≡ Some c) e a) (subst (λ (xs : List ℕ). slice_get xs (k + 1) ≡ Some d) e b)
    | inr g ↦
        let e : get_or (successors_of p) u [] ≡ [] = get_or_past (successors_of p) u [] (omega (arith, g, long_map p.blocks)) in
        absurd (none_at c k (subst (λ (xs : List ℕ). slice_get xs k ≡ Some c) e a))
  ];
}

pub few_edges : (p : HardProgram) → length p.blocks ≤ 65535 → length (successors_of p) < 2 ^ 32
few_edges p h = omega (arith, long_map p.blocks)

pub known_of : (succs : List (List ℕ)) (preds : List (List ℕ)) (two : List Bool) (labels : List ℕ) → AreEdges succs → length succs ≤ 65535 → preds ≡ backward succs → two ≡ twos preds
    → AreLabels (IsSucc succs) (label_at (length two) labels) → IsKnown succs preds two labels
known_of succs preds two labels edges few p t ls =
    let two_is : two ≡ twos (backward succs) = t ∙ ap twos p in
    let long : length two ≡ length succs = ap length two_is ∙ two_long succs edges in
    record {
      graph = subst (λ (b : List (List ℕ)). IsGraph succs b two (length two)) (sym p) (subst (λ (bs : List Bool). IsGraph succs (backward succs) bs (length two)) (sym two_is) (graph_of succs edges (length two) long));
      few = omega (arith, long, few);
      first = subst (λ (b : List (List ℕ)). AreFirst (IsSucc succs) (first_before b)) (sym p) (first_of succs edges);
      labels_are = ls;
      one = subst (λ (b : List (List ℕ)). (x y w : ℕ) → length (get_or b w []) ≤ 1 → IsSucc succs x w → IsSucc succs y w → x ≡ y) (sym p) (at_most_one succs edges);
      two_of = subst (λ (b : List (List ℕ)). (v : ℕ) → 2 ≤ length (get_or b v []) → HasTwo (IsSucc succs) v) (sym p) (two_of succs edges);
    }

pub graph_for : (S P s p : List (List ℕ)) (T t : List Bool) → AreEdges S → P ≡ backward S → T ≡ twos P → s ≡ S → p ≡ P → t ≡ T → IsGraph s p t (length t)
graph_for S P s p T t edges pe te es ep et =
    let two_is : T ≡ twos (backward S) = te ∙ ap twos pe in
    let long : length T ≡ length S = ap length two_is ∙ two_long S edges in
    let g : IsGraph S P T (length T) = subst (λ (b : List (List ℕ)). IsGraph S b T (length T)) (sym pe) (subst (λ (bs : List Bool). IsGraph S (backward S) bs (length T)) (sym two_is) (graph_of S edges (length T) long)) in
    subst (λ (bs : List Bool). IsGraph s p bs (length bs)) (sym et) (subst (λ (b : List (List ℕ)). IsGraph s b T (length T)) (sym ep) (subst (λ (b : List (List ℕ)). IsGraph b P T (length T)) (sym es) g))

pub twos_few : (S P : List (List ℕ)) (T t : List Bool) (n : ℕ) → AreEdges S → P ≡ backward S → T ≡ twos P → t ≡ T → length S ≡ n → n ≤ 65535 → length t < 2 ^ 32
twos_few S P T t n edges pe te et ns few = omega (arith, ap length et, ap length (te ∙ ap twos pe), two_long S edges)

pub labels_for : (S s : List (List ℕ)) (T t : List Bool) (l : List ℕ) → s ≡ S → t ≡ T → AreLabels (IsSucc s) (label_at (length t) l) → AreLabels (IsSucc S) (label_at (length T) l)
labels_for S s T t l es et h = subst (λ (b : List (List ℕ)). AreLabels (IsSucc b) (label_at (length T) l)) es (subst (λ (bs : List Bool). AreLabels (IsSucc s) (label_at (length bs) l)) et h)

pub some_there : (xs ys : List ℕ) (r : Bool) → xs ≡ ys → (length xs ≡ 0 → r ≡ true) → r ≡ false → 0 < length ys
some_there xs ys r e h f = elim (cases_lt 0 (length ys)) [
  | inl l ↦ l
  | inr g ↦ absurd (both_ways r f (h (omega (arith, ap length e))))
]

module _ (S P : List (List ℕ)) (T : List Bool) (L : List ℕ) (k : IsKnown S P T L) where
  pub contained : (w : ℕ) → 0 < length (get_or P w []) → IsSucc S (first_before P w) w
  contained w l = (k.graph.back (first_before P w) w).0 (at_in (get_or P w []) 0 l)

  pub list_there : (w : ℕ) → 0 < length (get_or P w []) → w < length P
  list_there w l = elim (cases_lt w (length P)) [
    | inl h ↦ h
    | inr g ↦ let e : get_or P w [] ≡ [] = get_or_past P w [] g in omega (arith, l, ap length e)
  ]

  pub first_small : (w : ℕ) → 0 < length (get_or P w []) → first_before P w < 65535
  first_small w l = omega (arith, in_range S (first_before P w) w (contained w l), k.graph.size, k.few)

  pub has_list : (p w : ℕ) → IsSucc S p w → 0 < length (get_or P w [])
  has_list p w c = let d = (k.graph.back p w).1 c in omega (arith, d.1)

  pub label_there : (w : ℕ) → HasTwo (IsSucc S) w → w < length L
  label_there w t = elim (cases_lt w (length L)) [
    | inl h ↦ h
    | inr g ↦
        let e : get_or L w (length T) ≡ length T = get_or_past L w (length T) g in
        omega (arith, k.labels_are.not_above w t, e, k.graph.inside t.one w t.by_one)
  ]

  pub label_led : (w : ℕ) → HasTwo (IsSucc S) w → 0 < length (get_or P (label_at (length T) L w) [])
  label_led w t =
      let u = right_two (IsSucc S) w (label_at (length T) L w) (k.labels_are.linked w t) in
      has_list u.one (label_at (length T) L w) u.by_one

  pub base_is : (w : ℕ) → HasTwo (IsSucc S) w → IsBase (IsSucc S) w (first_before P (label_at (length T) L w) + 1)
  base_is w t = base_of (IsSucc S) (label_at (length T) L) (first_before P) k.labels_are k.first w t

  two_true : (u : ℕ) → slice_index_or T u false ≡ true → HasTwo (IsSucc S) u
  two_true u h = (k.graph.twos u).0 h

  pub reached_joined : (u d b D : ℕ) → slice_index_or T u false ≡ true → IsBase (IsSucc S) u b → d ≡ bit_xor b (u + 1) → IsReached (IsSucc S) u (record { s = u + 1; d = d; fan = slice_index_or T u false; D = D })
  reached_joined u d b D h base e = joined b (two_true u h) base h e

  pub reached_entered : (u d D : ℕ) → slice_index_or T u false ≡ false → length (get_or P u []) ≡ 0 → d ≡ u + 1 → IsReached (IsSucc S) u (record { s = u + 1; d = d; fan = slice_index_or T u false; D = D })
  reached_entered u d D h z e = entered (λ p c. omega (arith, has_list p u c, z)) h e

  not_two : (u : ℕ) → slice_index_or T u false ≡ false → length (get_or P u []) ≤ 1
  not_two u h = elim (cases_lt 1 (length (get_or P u []))) [
    | inl l ↦ absurd (both_ways (slice_index_or T u false) h ((k.graph.twos u).1 (k.two_of u (omega (arith, l)))))
    | inr g ↦ g
  ]

  pub reached_led : (u d D : ℕ) → slice_index_or T u false ≡ false → 0 < length (get_or P u []) → d ≡ bit_xor (first_before P u + 1) (u + 1) → IsReached (IsSucc S) u (record { s = u + 1; d = d; fan = slice_index_or T u false; D = D })
  reached_led u d D h l e = led (first_before P u) (contained u l) (λ q c. k.one q (first_before P u) u (not_two u h) c (contained u l)) h e

  pub leaves_adjusts : (u w b D d : ℕ) (fan : Bool) → IsSucc S u w → HasTwo (IsSucc S) w → IsBase (IsSucc S) w b → D ≡ bit_xor (u + 1) b → Leaves (IsSucc S) u (record { s = u + 1; d = d; fan = fan; D = D })
  leaves_adjusts u w b D d fan c t base e = adjusts w b c t base e

  pub leaves_rests : (u D d : ℕ) (fan : Bool) → All (λ w. slice_index_or T w false ≡ false) (get_or S u []) → D ≡ 0 → Leaves (IsSucc S) u (record { s = u + 1; d = d; fan = fan; D = D })
  leaves_rests u D d fan all e = rests (λ w c t. both_ways (slice_index_or T w false) (All-contains (λ v. slice_index_or T v false ≡ false) (get_or S u []) w all c) ((k.graph.twos w).1 t)) e

  pub two_flag : (u : ℕ) (b value : Bool) → u < length T → b ≡ get_or T u b → b ≡ value → slice_index_or T u false ≡ value
  two_flag u b value l e v = sym (get_or_read T u b l e false) ∙ v

  pub list_of : (u : ℕ) (xs : List ℕ) → u < length T → xs ≡ get_or P u xs → xs ≡ get_or P u []
  list_of u xs l e = get_or_read P u xs (omega (arith, l, k.graph.size_back)) e []

  pub inside_all : (u : ℕ) (xs slice : List ℕ) (t : List Bool) → u < length T → xs ≡ get_or S u xs → slice ≡ xs → t ≡ T → All (λ w. w < length t) slice
  inside_all u xs slice t l e s et =
      let same : slice ≡ get_or S u [] = s ∙ get_or_read S u xs (omega (arith, l, k.graph.size)) e [] in
      subst (λ (ys : List ℕ). All (λ w. w < length t) ys) (sym same) (subst (λ (bs : List Bool). All (λ w. w < length bs) (get_or S u [])) (sym et) (all_of (λ w. w < length T) (get_or S u []) (λ v c. k.graph.inside u v c)))

  pub next_of : (u : ℕ) (xs slice : List ℕ) → u < length T → xs ≡ get_or S u xs → slice ≡ xs → slice ≡ get_or S u []
  next_of u xs slice l e s = s ∙ get_or_read S u xs (omega (arith, l, k.graph.size)) e []

  pub joins : (u w : ℕ) (slice : List ℕ) (t : List Bool) → slice ≡ get_or S u [] → t ≡ T → Contains slice w → slice_index_or t w false ≡ true → IsSucc S u w × HasTwo (IsSucc S) w
  joins u w slice t e et c h = (subst (λ (ys : List ℕ). Contains ys w) e c, two_true w (ap (λ (bs : List Bool). slice_index_or bs w false) (sym et) ∙ h))

  pub rests_all : (u : ℕ) (slice : List ℕ) (t : List Bool) → slice ≡ get_or S u [] → t ≡ T → All (λ w. slice_index_or t w false ≡ false) slice → All (λ w. slice_index_or T w false ≡ false) (get_or S u [])
  rests_all u slice t e et h = subst (λ (ys : List ℕ). All (λ w. slice_index_or T w false ≡ false) ys) e (subst (λ (bs : List Bool). All (λ w. slice_index_or bs w false ≡ false) slice) et h)

-- the marks of a program
pub has_signs : (p : HardProgram) (marks : List Mark) (succs : List (List ℕ)) (two : List Bool) (n : ℕ) → WellFormed p → succs ≡ successors_of p → n ≡ length succs → AreMarked succs n marks → HasSigns (record { program = p; marks = marks })
has_signs p marks succs two n f s e m =
    let long : length (successors_of p) ≡ length p.blocks = long_map p.blocks in
    record {
      one_each = omega (arith, m.one_each, e, ap length s, long);
      signs = record {
        each = λ u l.
            subst (λ (h : Head). IsSigned (IsSucc (successors_of p)) u h) (sym (mapped marks u)) (subst (λ (xs : List (List ℕ)). IsSigned (IsSucc xs) u (head_of (get_or marks u (record { s = 0; d = 0; fan = false; adjust = 0 })))) s (m.signed u (omega (arith, e, ap length s))));
        within = (edges_of p f).within;
      };
    }

pub marked_more : (S : List (List ℕ)) (n : ℕ) (marks more : List Mark) (m : Mark) → AreMarked S n marks → IsSigned (IsSucc S) n (head_of m) → more ≡ marks ++ m ∷ [] → AreMarked S (n + 1) more
marked_more S n marks more m a signed e =
    let none : Mark = record { s = 0; d = 0; fan = false; adjust = 0 } in
    subst (AreMarked S (n + 1)) (sym e) (record {
      one_each = omega (arith, length-append marks (m ∷ []), a.one_each);
      signed = λ u l. elim (cases_lt u n) [
        | inl k ↦ subst (λ (x : Mark). IsSigned (IsSucc S) u (head_of x)) (sym (get_or_append_left marks (m ∷ []) none u (omega (arith, a.one_each)))) (a.signed u k)
        | inr k ↦
            let same : n ≡ u = omega arith in
            let at_end : IsSigned (IsSucc S) n (head_of (get_or (marks ++ m ∷ []) n none)) = subst (λ (x : Mark). IsSigned (IsSucc S) n (head_of x)) (sym (get_or_push marks m none n a.one_each)) signed in
            subst (λ (v : ℕ). IsSigned (IsSucc S) v (head_of (get_or (marks ++ m ∷ []) v none))) same at_end
      ];
    })
