-- The start: the items before the first line of the main function.
use Rattle.std.proofs.Common.{◌≡◌, ◌≢◌, ◌≤◌, ◌<◌, ℕ, zero, suc, ◌+◌, ◌-◌, ◌*◌, ◌/◌, ◌%◌, ◌^◌, arith, ap, refl, sym, ◌∙◌, subst, List, [], ◌∷◌, ◌++◌, append_assoc, append-nil, length, get_or, take, drop, map, replicate, Bool, true, false, cond, not, inl, inr, le_refl, le_trans, flat_map, sum, add-zero}
use Rattle.std.specs.Prelude.{Option, Some, None, slice_get, slice_index, slice_index_or, bit_or}
use Rattle.std.proofs.lemmas.Nat.{or_shifted}
use Rattle.hard_runs.specs.Stepping.{Leads}
use Rattle.hard_runs.proofs.Following.{leads_on}
use Rattle.mips_isa.specs.declared.instr.Instr.TheVariants as mips
use Rattle.mid_blocks.specs.declared.code.MidBlock.{MidBlock}
use Rattle.mid_blocks.specs.declared.code.MidFunction.{MidFunction}
use Rattle.mid_blocks.specs.declared.code.Mid.{Mid}
use Rattle.mid_blocks.specs.declared.places.Places.{Places}
use Rattle.mid_blocks.specs.Run.{first_state}
use Rattle.hard_items.specs.declared.code.Item.{Item}
use Rattle.hard_items.specs.declared.code.HardProgram.{HardProgram}
use Rattle.hard_items.specs.Run.{Data, Spot, items, before, at_block, Onward, first_data, first_spot}
use Rattle.double_law.specs.declared.roles.Stream.{Stream}
use Rattle.double_law.specs.declared.roles.Stream.TheVariants.{First, Second}
use Rattle.double_law.specs.declared.roles.Role.{Role}
use Rattle.double_law.specs.declared.roles.Role.TheVariants.{Value, Stack, Link}
use Rattle.double_law.specs.Roles.{reg_in, both}
use Rattle.double_law.specs.Emitted.{call_items, enter_items}
use Rattle.frame_plan.specs.Frames.{cell_address, global_cell, global_cells, cells}
use Rattle.double_law.specs.Program.{first_block, first_items, IsDoubled, doubled}
use Rattle.double_law.proofs.Doubled.{half, back_of, Pairs, Doubled, put}
use Rattle.double_law.proofs.Leading.{Good, Done, Does, does_then}
use Rattle.double_law.proofs.Control.{Goes, goes_then, goes_call}
use Rattle.double_law.proofs.Operations.{does_zero, does_two, two_lui, two_ori, put_word, put_twice, does_same, Free}
use Rattle.double_law.proofs.Calls.{StackAt, Entered, enters}
use Rattle.hard_words.proofs.Sums.{sum_cons}
use Rattle.double_law.proofs.Relation.{Flow, rest_items, global_below}
use Rattle.double_law.proofs.Stages.{R, Setting}
use Rattle.double_law.proofs.Ends.{Wired, arrives, at_before}

-- ---- memory at the start

all_words : Mid → List ℕ
all_words mid = flat_map (λ words. words) mid.globals

zeros_are : (n k : ℕ) → get_or {A = ℕ} (replicate n 0) k 0 ≡ 0
zeros_are zero k = refl
zeros_are (suc n) zero = refl
zeros_are (suc n) (suc k) = zeros_are n k

even : (c : ℕ) → 2 * suc c + 0 ≡ suc (suc (2 * c + 0))
even c = omega arith

odd : (c : ℕ) → 2 * suc c + 1 ≡ suc (suc (2 * c + 1))
odd c = omega arith

twice_is : (ws : List ℕ) (n c : ℕ) (t : Stream) → get_or {A = ℕ} (doubled ws ++ replicate n 0) (2 * c + half t) 0 ≡ get_or ws c 0
twice_is [] n c t = zeros_are n (2 * c + half t)
twice_is (w ∷ ws) n zero First = refl
twice_is (w ∷ ws) n zero Second = refl
twice_is (w ∷ ws) n (suc c) First = ap (λ (k : ℕ). get_or (w ∷ w ∷ (doubled ws ++ replicate n 0)) k 0) (even c) ∙ twice_is ws n c First
twice_is (w ∷ ws) n (suc c) Second = ap (λ (k : ℕ). get_or (w ∷ w ∷ (doubled ws ++ replicate n 0)) k 0) (odd c) ∙ twice_is ws n c Second

doubled_length : (ws : List ℕ) → length (doubled ws) ≡ 2 * length ws
doubled_length [] = refl
doubled_length (w ∷ ws) = up (length (doubled ws)) (length ws) (doubled_length ws)
  where
    up : (m n : ℕ) → m ≡ 2 * n → suc (suc m) ≡ 2 * suc n
    up m n e = omega arith

flat_length : (xs : List (List ℕ)) → length (flat_map (λ words. words) xs) ≡ sum (map length xs)
flat_length [] = refl
flat_length (x ∷ xs) = Rattle.std.proofs.Common.length-append x (flat_map (λ words. words) xs) ∙ (ap (λ (n : ℕ). length x + n) (flat_length xs) ∙ sym (sum_cons (length x) (map length xs)))

memory_length : (ws : List ℕ) (m n : ℕ) → length ws ≤ n → m ≡ 2 * n → length (doubled ws ++ replicate (m - length (doubled ws)) 0) ≡ 2 * n
memory_length ws m n h e = Rattle.std.proofs.Common.length-append (doubled ws) (replicate (m - length (doubled ws)) 0) ∙ (ap (λ (k : ℕ). length (doubled ws) + k) (Rattle.std.proofs.lemmas.List.length-replicate (m - length (doubled ws)) 0) ∙ total (length (doubled ws)) (length ws) m n (doubled_length ws) h e)
  where
    total : (d l m n : ℕ) → d ≡ 2 * l → l ≤ n → m ≡ 2 * n → d + (m - d) ≡ 2 * n
    total d l m n a b c = omega arith

-- the words of a list of lists
flat_get : (xs : List (List ℕ)) (g i : ℕ) → i < length (slice_index_or xs g []) → get_or (flat_map (λ words. words) xs) (sum (map length (take g xs)) + i) 0 ≡ slice_index_or (slice_index_or xs g []) i 0
flat_get [] g i h = absurd (Rattle.std.proofs.Common.not-suc-le-zero h)
flat_get (x ∷ xs) zero i h = ap (λ (k : ℕ). get_or (x ++ flat_map (λ words. words) xs) k 0) (Rattle.std.proofs.Common.zero-add i) ∙ Rattle.std.proofs.lemmas.List.get_or_append_left x (flat_map (λ words. words) xs) 0 i h
flat_get (x ∷ xs) (suc g) i h =
    ap (λ (k : ℕ). get_or (x ++ flat_map (λ words. words) xs) k 0) (ap (λ (n : ℕ). n + i) (sum_cons (length x) (map length (take g xs))) ∙ Rattle.std.proofs.Common.add_assoc (length x) (sum (map length (take g xs))) i) ∙
    (Rattle.std.proofs.Common.get_or-append-add x (flat_map (λ words. words) xs) (sum (map length (take g xs)) + i) 0 ∙ flat_get xs g i h)

-- what both streams hold at the start
abbrev pub at_start : Mid → List ℕ → Pairs
at_start mid input = record { file = λ r. 0; cell = λ c. slice_index (flat_map (λ words. words) mid.globals) c; link = false; number = λ c. false; feed = input; fed = 0 }

no_back : (mid : Mid) (input : List ℕ) (r : Role) → false ≡ back_of (at_start mid input) r
no_back mid input (Value k) = refl
no_back mid input Stack = refl
no_back mid input Link = refl

pub doubled_at_start : (mid : Mid) (places : List Places) (p : HardProgram) (input : List ℕ) → IsDoubled mid places p → ((c : ℕ) → slice_index (flat_map (λ words. words) mid.globals) c < 2 ^ 32) → Doubled (cells mid) (first_data p input) (at_start mid input)
doubled_at_start mid places p input is small =
    let ws : List ℕ = flat_map (λ words. words) mid.globals in
    let mem : p.initial ++ replicate (p.memory_words - length p.initial) 0 ≡ doubled ws ++ replicate (p.memory_words - length (doubled ws)) 0 = ap (λ (x : List ℕ). x ++ replicate (p.memory_words - length x) 0) is.initial in
    record {
      sound = record {
        regs = refl;
        memory = ap (λ (x : List ℕ). length x) mem ∙ memory_length ws p.memory_words (cells mid) (subst (λ (n : ℕ). n ≤ cells mid) (sym (flat_length mid.globals)) (some_left (global_cells mid) mid.chain_pairs)) is.memory;
        zero_ = refl;
        zero_back = refl;
        two_back = refl;
        feed = refl;
        fed = refl;
      };
      sees = λ t. record {
        file = λ r f. zeros_are 32 (reg_in t r);
        backs = λ r f. no_back mid input r;
        cell = λ c h. ap (λ (x : List ℕ). get_or x (2 * c + half t) 0) mem ∙ twice_is ws (p.memory_words - length (doubled ws)) c t;
        number = λ c h. refl;
      };
      words = record { file = λ r. omega arith; cell = small };
    }
  where
    some_left : (g c : ℕ) → g ≤ g + c
    some_left g c = omega arith

-- ---- the first block

address_joined : (w : ℕ) → bit_or (w / 2 ^ 16 * 2 ^ 16) (w % 2 ^ 16) ≡ w
address_joined w = or_shifted (w / 2 ^ 16) 16 (w % 2 ^ 16) (Rattle.std.proofs.Common.mod-lt w (omega arith)) ∙ joined w
  where
    joined : (w : ℕ) → w / 2 ^ 16 * 2 ^ 16 + w % 2 ^ 16 ≡ w
    joined w = omega arith

high_small : (n : ℕ) → n ≤ 32768 → (0x10010000 + 8 * n) / 2 ^ 16 * 2 ^ 16 < 2 ^ 32
high_small n h = omega arith

address_small : (n : ℕ) → n ≤ 32768 → 0x10010000 + 8 * n < 2 ^ 32
address_small n h = omega arith

stack_free : Free Stack
stack_free = record { fits = tt; back = refl }

stack_set : (mid : Mid) (p : HardProgram) (a : Pairs) → cells mid ≤ 32768 → Does p (cells mid) 0 (both (λ t. mips.Lui (reg_in t Stack) (cell_address (cells mid) / 2 ^ 16)) ++ both (λ t. mips.Ori (reg_in t Stack) (reg_in t Stack) (cell_address (cells mid) % 2 ^ 16))) a (put a Stack (cell_address (cells mid)) false)
stack_set mid p a h =
    let w : ℕ = cell_address (cells mid) in
    let u : ℕ = w / 2 ^ 16 * 2 ^ 16 in
    let lui : List Item = both (λ t. mips.Lui (reg_in t Stack) (w / 2 ^ 16)) in
    let ori : List Item = both (λ t. mips.Ori (reg_in t Stack) (reg_in t Stack) (w % 2 ^ 16)) in
    let a1 : Pairs = put a Stack u false in
    does_same p (cells mid) 0 (lui ++ ori) a (put a1 Stack w false) (put a Stack w false)
    (does_then p (cells mid) 0 lui ori a a1 (put a1 Stack w false)
    (does_zero p (cells mid) 0 (λ x y. mips.Lui x (w / 2 ^ 16)) (λ x. u) Stack a (two_lui p (w / 2 ^ 16)) stack_free (high_small (cells mid) h))
    (put_word p (cells mid) 0 ori a1 Stack (bit_or u (w % 2 ^ 16)) w (address_joined w)
    (does_two p (cells mid) 0 (λ x y. mips.Ori x y (w % 2 ^ 16)) (λ x. bit_or x (w % 2 ^ 16)) Stack Stack a1 (two_ori p (w % 2 ^ 16)) stack_free (record { fits = tt; no_number = refl })
    (subst (λ (z : ℕ). z < 2 ^ 32) (sym (address_joined w)) (address_small (cells mid) h)))))
    (put_twice a Stack u w)

first_some : (mid : Mid) → first_items mid ≡ [] → ⊥
first_some mid e = cc

-- the first state of the block machine, beside the first state of the items
pub related_at_start : (mid : Mid) (places : List Places) (p : HardProgram) (input : List ℕ) → IsDoubled mid places p → Setting mid places p input → Wired mid places p → ((c : ℕ) → slice_index (flat_map (λ words. words) mid.globals) c < 2 ^ 32) →
    (f : MidFunction) (at : Places) (blk : MidBlock) → slice_get mid.functions 0 ≡ Some f → slice_get places 0 ≡ Some at → slice_get f.blocks 0 ≡ Some blk → f.params ≡ 0 → f.pairs ≤ mid.chain_pairs → R mid places p input (first_state mid input) (first_spot p input)
related_at_start mid places p input is set wired small f at blk fe ae be none fits =
    let flow : Flow f at = set.flows 0 f at fe ae in
    let d0 : Data = first_data p input in
    let a0 : Pairs = at_start mid input in
    let dbl : Doubled (cells mid) d0 a0 = doubled_at_start mid places p input is small in
    let w : ℕ = cell_address (cells mid) in
    let set2 : List Item = both (λ t. mips.Lui (reg_in t Stack) (w / 2 ^ 16)) ++ both (λ t. mips.Ori (reg_in t Stack) (reg_in t Stack) (w % 2 ^ 16)) in
    let a1 : Pairs = put a0 Stack w false in
    let a2 : Pairs = put a1 Link 1 true in
    let t : ℕ = slice_index p.entries 0 in
    let x : Goes p (cells mid) (before p 0 ((set2 ++ call_items 0) ++ []) Onward d0) t a2 = goes_then p (cells mid) 0 set2 (call_items 0) a0 a1 a2 t (stack_set mid p a0 set.small) (goes_call p (cells mid) 0 0 a1 (omega arith)) [] d0 dbl in
    let start : before p 0 ((set2 ++ call_items 0) ++ []) Onward d0 ≡ first_spot p input =
    ap (λ (z : List Item). before p 0 z Onward d0) (append-nil (set2 ++ call_items 0) ∙ append_assoc (both (λ t. mips.Lui (reg_in t Stack) (w / 2 ^ 16))) (both (λ t. mips.Ori (reg_in t Stack) (reg_in t Stack) (w % 2 ^ 16))) (call_items 0)) ∙ sym (at_before p 0 d0 (first_items mid) is.first (first_some mid)) in
    let room : f.pairs ≤ cells mid = le_trans fits (right_left (global_cells mid) mid.chain_pairs) in
    let top : ℕ = cells mid - f.pairs in
    let sa : StackAt (cells mid) (cells mid) a2 = record { stack = refl; room = le_refl (cells mid); small = set.small } in
    let en : (a' : Pairs) × Does p (cells mid) (first_block mid 0 + 0) (enter_items at f.pairs f.params) a2 a' × Entered a2 a' at f.pairs f.params top 1 =
    enters p (cells mid) (first_block mid 0 + 0) (cells mid) f.pairs f.params 1 at a2 sa flow.has_pair flow.pairs_fit room refl refl
    (λ j h. absurd (no_params j f.params none h)) (λ j q k h l. absurd (no_params j f.params none h)) in
    let z : Entered a2 en.0 at f.pairs f.params top 1 = en.2 in
    let more : List Item = rest_items mid 0 f at blk 0 in
    let m0 : Spot = at_block p t x.now in
    let m0_is : m0 ≡ before p (first_block mid 0 + 0) (enter_items at f.pairs f.params ++ more) Onward x.now = ap (λ (k : ℕ). at_block p k x.now) (wired.entry_is 0 f fe ∙ sym (add-zero (first_block mid 0))) ∙ arrives mid places p is 0 0 f at blk x.now fe ae be in
    let y : Done p (cells mid) (first_block mid 0 + 0) (enter_items at f.pairs f.params) more x.now en.0 = en.1 more x.now x.doubled in
    let m : Spot = before p (first_block mid 0 + 0) more Onward y.now in
    let above : global_cells mid ≤ top = above_globals (global_cells mid) mid.chain_pairs f.pairs fits in (
      suc x.more_steps + y.steps,
      m,
      leads_on (items p) (Good p) (suc x.more_steps) y.steps (first_spot p input) m0 m
          (subst (λ (s : Spot). Leads (items p) (Good p) (suc x.more_steps) s m0) start x.leads)
          (subst (λ (s : Spot). Leads (items p) (Good p) y.steps s m) (sym m0_is) y.leads),
      record {
        going = refl;
        f = f;
        at = at;
        block = blk;
        is_function = fe;
        is_places = ae;
        is_block = be;
        within = Rattle.std.proofs.Common.zero-le;
        a = en.0;
        d = y.now;
        top = top;
        spot = refl;
        doubled = y.doubled;
        frame = record { stack = z.stack; room = whole (cells mid) f.pairs room; small = set.small; pairs_fit = flow.pairs_fit };
        above = above;
        holds = record { word = λ v q n e. absurd (none_is q e); unnumbered = λ v q n e. absurd (none_is q e) };
        globals = record {
          word = λ g i h k. z.cell (global_cell mid g + i) (off_top (global_cells mid) (global_cell mid g + i) top (global_below mid g i k) above) ∙ flat_get mid.globals g i k;
          unnumbered = λ g i h k. z.number (global_cell mid g + i) (off_top (global_cells mid) (global_cell mid g + i) top (global_below mid g i k) above);
          lengths = λ g. refl;
          count = refl;
        };
        waits = (back_up (cells mid) f.pairs room, z.link_cell, z.link_number, refl);
        feed = sym (ap (λ (k : ℕ). drop k en.0.feed) z.fed ∙ z.feed);
        all = z.feed;
      },
    )
  where
    right_left : (g c : ℕ) → c ≤ g + c
    right_left g c = omega arith

    no_params : (j n : ℕ) → n ≡ 0 → j < n → ⊥
    no_params j n e h = omega arith

    whole : (n q : ℕ) → q ≤ n → n - q + q ≤ n
    whole n q h = omega arith

    back_up : (n q : ℕ) → q ≤ n → n - q + q ≡ n
    back_up n q h = omega arith

    above_globals : (g c q : ℕ) → q ≤ c → g ≤ g + c - q
    above_globals g c q h = omega arith

    none_is : (q : ℕ) → ◌≡◌ {A = Option ℕ} None (Some q) → ⊥
    none_is q e = cc

    off_top : (g c t : ℕ) → c < g → g ≤ t → c ≢ t
    off_top g c t h k = λ e. omega arith
