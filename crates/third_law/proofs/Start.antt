-- The start: the items before the first line of the main function.
use Rattle.std.proofs.Common.{◌≡◌, ◌≢◌, ◌≤◌, ◌<◌, ℕ, zero, suc, ◌+◌, ◌-◌, ◌*◌, ◌/◌, ◌%◌, ◌^◌, arith, ap, refl, sym, ◌∙◌, subst, List, [], ◌∷◌, ◌++◌, append_assoc, append-nil, length, get_or, take, drop, map, replicate, Bool, true, false, cond, not, inl, inr, le_refl, le_trans, flat_map, sum, add-zero}
use Rattle.std.specs.Prelude.{Option, Some, None, slice_get, slice_index, slice_index_or, bit_or}
use Rattle.hard_runs.proofs.Following.{leads_on}
use Rattle.mips_isa.specs.declared.instr.Instr.TheVariants as mips
use Rattle.mid_blocks.specs.declared.code.MidBlock.{MidBlock}
use Rattle.mid_blocks.specs.declared.code.MidFunction.{MidFunction}
use Rattle.mid_blocks.specs.declared.code.Mid.{Mid}
use Rattle.mid_blocks.specs.declared.places.Places.{Places}
use Rattle.mid_blocks.specs.Run.{first_state}
use Rattle.frame_plan.specs.Frames.{global_cell, global_cells, cells}
use Rattle.mips_isa.specs.declared.instr.Instr.{Instr}
use Rattle.mips_isa.specs.Machine.{State, plus}
use Rattle.mips_isa.specs.Image.{boot_state}
use Rattle.third_law.specs.declared.roles.Stream.{Stream}
use Rattle.third_law.specs.declared.roles.Stream.TheVariants.{First, Second, Third}
use Rattle.third_law.specs.declared.roles.Role.TheVariants.{Stack, Link}
use Rattle.third_law.specs.Roles.{reg_in, each}
use Rattle.third_law.specs.Emitted.{call_code, enter_code}
use Rattle.third_law.specs.Program.{cell_address, first_block, first_code, tripled, third_image}
use Rattle.third_law.proofs.Sights.{Sight, Tripled, lane, put}
use Rattle.third_law.proofs.Going.{machine, Stands, Before, Done, address, stands_first, stands_rest}
use Rattle.third_law.proofs.Voting.{Good}
use Rattle.third_law.proofs.Control.{Arrives}
use Rattle.third_law.proofs.Leading.{Runnable, Does, does_then, does_same, behind_both}
use Rattle.third_law.proofs.Arithmetic.{word_joined}
use Rattle.third_law.proofs.Operations.{does_zero, does_two, two_lui, two_ori, put_word, put_twice}
use Rattle.third_law.proofs.Calls.{StackAt, Entered, enters}
use Rattle.third_law.proofs.Relation.{Flow, BehindCall, Laid, rest_code, sum_cons, global_below}
use Rattle.third_law.proofs.Calling.{goes_call, behind_call}
use Rattle.third_law.proofs.Stages.{R, Setting}
use Rattle.third_law.proofs.Ends.{low_block}

-- ---- memory at the start

all_words : Mid → List ℕ
all_words mid = flat_map (λ words. words) mid.globals

zeros_are : (n k : ℕ) → get_or {A = ℕ} (replicate n 0) k 0 ≡ 0
zeros_are zero k = refl
zeros_are (suc n) zero = refl
zeros_are (suc n) (suc k) = zeros_are n k

next_cell : (c h : ℕ) → 4 * suc c + h ≡ suc (suc (suc (suc (4 * c + h))))
next_cell c h = omega arith

thrice_is : (ws : List ℕ) (n c : ℕ) (t : Stream) → get_or {A = ℕ} (tripled ws ++ replicate n 0) (4 * c + lane t) 0 ≡ get_or ws c 0
thrice_is [] n c t = zeros_are n (4 * c + lane t)
thrice_is (w ∷ ws) n zero First = refl
thrice_is (w ∷ ws) n zero Second = refl
thrice_is (w ∷ ws) n zero Third = refl
thrice_is (w ∷ ws) n (suc c) t = ap (λ (k : ℕ). get_or (w ∷ w ∷ w ∷ 0 ∷ (tripled ws ++ replicate n 0)) k 0) (next_cell c (lane t)) ∙ thrice_is ws n c t

tripled_length : (ws : List ℕ) → length (tripled ws) ≡ 4 * length ws
tripled_length [] = refl
tripled_length (w ∷ ws) = up (length (tripled ws)) (length ws) (tripled_length ws)
  where
    up : (m n : ℕ) → m ≡ 4 * n → suc (suc (suc (suc m))) ≡ 4 * suc n
    up m n e = omega arith

flat_length : (xs : List (List ℕ)) → length (flat_map (λ words. words) xs) ≡ sum (map length xs)
flat_length [] = refl
flat_length (x ∷ xs) = Rattle.std.proofs.Common.length-append x (flat_map (λ words. words) xs) ∙ (ap (λ (n : ℕ). length x + n) (flat_length xs) ∙ sym (sum_cons (length x) (map length xs)))

memory_length : (ws : List ℕ) (n : ℕ) → length ws ≤ n → length (tripled ws ++ replicate (4 * n - length (tripled ws)) 0) ≡ 4 * n
memory_length ws n h = Rattle.std.proofs.Common.length-append (tripled ws) (replicate (4 * n - length (tripled ws)) 0) ∙ (ap (λ (k : ℕ). length (tripled ws) + k) (Rattle.std.proofs.lemmas.List.length-replicate (4 * n - length (tripled ws)) 0) ∙ total (length (tripled ws)) (length ws) n (tripled_length ws) h)
  where
    total : (d l n : ℕ) → d ≡ 4 * l → l ≤ n → d + (4 * n - d) ≡ 4 * n
    total d l n a b = omega arith

-- the words of a list of lists
flat_get : (xs : List (List ℕ)) (g i : ℕ) → i < length (slice_index_or xs g []) → get_or (flat_map (λ words. words) xs) (sum (map length (take g xs)) + i) 0 ≡ slice_index_or (slice_index_or xs g []) i 0
flat_get [] g i h = absurd (Rattle.std.proofs.Common.not-suc-le-zero h)
flat_get (x ∷ xs) zero i h = ap (λ (k : ℕ). get_or (x ++ flat_map (λ words. words) xs) k 0) (Rattle.std.proofs.Common.zero-add i) ∙ Rattle.std.proofs.lemmas.List.get_or_append_left x (flat_map (λ words. words) xs) 0 i h
flat_get (x ∷ xs) (suc g) i h =
    ap (λ (k : ℕ). get_or (x ++ flat_map (λ words. words) xs) k 0) (ap (λ (n : ℕ). n + i) (sum_cons (length x) (map length (take g xs))) ∙ Rattle.std.proofs.Common.add_assoc (length x) (sum (map length (take g xs))) i) ∙
    (Rattle.std.proofs.Common.get_or-append-add x (flat_map (λ words. words) xs) (sum (map length (take g xs)) + i) 0 ∙ flat_get xs g i h)

-- what all streams hold at the start
abbrev pub at_start : Mid → List ℕ → Sight
at_start mid input = record { file = λ r. 0; cell = λ c. slice_index (flat_map (λ words. words) mid.globals) c; feed = input; fed = 0 }

pub tripled_at_start : (mid : Mid) (text input : List ℕ) → ((c : ℕ) → slice_index (flat_map (λ words. words) mid.globals) c < 2 ^ 32) → Tripled (cells mid) (boot_state (third_image mid text) input) (at_start mid input)
tripled_at_start mid text input small =
    let ws : List ℕ = flat_map (λ words. words) mid.globals in
    record {
      sound = record {
        all = refl;
        cells = memory_length ws (cells mid) (subst (λ (n : ℕ). n ≤ cells mid) (sym (flat_length mid.globals)) (some_left (global_cells mid) mid.chain_pairs));
        zero_ = refl;
      };
      sees = λ t. record {
        file = λ r f. zeros_are 32 (reg_in t r);
        cell = λ c h. thrice_is ws (4 * cells mid - length (tripled ws)) c t;
      };
      feed = refl;
      fed = refl;
      words = record { file = λ r. omega arith; cell = small };
    }
  where
    some_left : (g c : ℕ) → g ≤ g + c
    some_left g c = omega arith

-- ---- the first block

high_small : (n : ℕ) → n ≤ 32768 → (0x10010000 + 16 * n) / 2 ^ 16 * 2 ^ 16 < 2 ^ 32
high_small n h = omega arith

address_small : (n : ℕ) → n ≤ 32768 → 0x10010000 + 16 * n < 2 ^ 32
address_small n h = omega arith

stack_set : (mid : Mid) (p : Runnable) (a : Sight) → cells mid ≤ 32768 → Does p (cells mid) (each (λ t. mips.Lui (reg_in t Stack) (cell_address (cells mid) / 2 ^ 16)) ++ each (λ t. mips.Ori (reg_in t Stack) (reg_in t Stack) (cell_address (cells mid) % 2 ^ 16))) a (put a Stack (cell_address (cells mid)))
stack_set mid p a h =
    let w : ℕ = cell_address (cells mid) in
    let u : ℕ = w / 2 ^ 16 * 2 ^ 16 in
    let lui : List Instr = each (λ t. mips.Lui (reg_in t Stack) (w / 2 ^ 16)) in
    let ori : List Instr = each (λ t. mips.Ori (reg_in t Stack) (reg_in t Stack) (w % 2 ^ 16)) in
    let a1 : Sight = put a Stack u in
    does_same p (cells mid) (lui ++ ori) a (put a1 Stack w) (put a Stack w)
    (does_then p (cells mid) lui ori a a1 (put a1 Stack w)
    (does_zero p (cells mid) (λ x y. mips.Lui x (w / 2 ^ 16)) (λ x. u) Stack a (two_lui (w / 2 ^ 16)) tt (high_small (cells mid) h))
    (put_word p (cells mid) ori a1 Stack (bit_or u (w % 2 ^ 16)) w (word_joined w)
    (does_two p (cells mid) (λ x y. mips.Ori x y (w % 2 ^ 16)) (λ x. bit_or x (w % 2 ^ 16)) Stack Stack a1 (two_ori (w % 2 ^ 16)) tt tt
    (subst (λ (z : ℕ). z < 2 ^ 32) (sym (word_joined w)) (address_small (cells mid) h)))))
    (put_twice a Stack u w)

entry_next : plus 0x00400000 4 ≡ address 1
entry_next = refl

pub before_start : (mid : Mid) (text input : List ℕ) → Before text 0 0 (boot_state (third_image mid text) input)
before_start mid text input = record { same = refl; pc = refl; npc = entry_next; last = refl; quiet = refl; slot = refl; open_ = refl }

-- the first state of the block machine, beside the first state of the machine
pub related_at_start : (mid : Mid) (places : List Places) (p : Runnable) (x : Laid mid places p) (input : List ℕ) → Setting mid places input → ((c : ℕ) → slice_index (flat_map (λ words. words) mid.globals) c < 2 ^ 32) →
    (f : MidFunction) (at : Places) (blk : MidBlock) → slice_get mid.functions 0 ≡ Some f → slice_get places 0 ≡ Some at → slice_get f.blocks 0 ≡ Some blk → f.params ≡ 0 → f.pairs ≤ mid.chain_pairs → R mid places p x input (first_state mid input) (boot_state (third_image mid p.text) input)
related_at_start mid places p x input set small f at blk fe ae be none fits =
    let flow : Flow f at = set.flows 0 f at fe ae in
    let s0 : State = boot_state (third_image mid p.text) input in
    let a0 : Sight = at_start mid input in
    let d0 : Tripled (cells mid) s0 a0 = tripled_at_start mid p.text input small in
    let w : ℕ = cell_address (cells mid) in
    let lui : List Instr = each (λ t. mips.Lui (reg_in t Stack) (w / 2 ^ 16)) in
    let ori : List Instr = each (λ t. mips.Ori (reg_in t Stack) (reg_in t Stack) (w % 2 ^ 16)) in
    let set2 : List Instr = lui ++ ori in
    let a1 : Sight = put a0 Stack w in
    let m0 : ℕ = x.place (first_block mid 0 + 0) in
    let kb : ℕ = x.place 1 in
    let a2 : Sight = put a1 Link (address kb) in
    let to_is : x.at (first_block mid 0) ≡ address m0 = ap (λ (k : ℕ). x.at k) (sym (add-zero (first_block mid 0))) ∙ x.at_block 0 0 f blk fe be in
    let c0 : List Instr = call_code (x.at (first_block mid 0)) (x.at 1) in
    let c1 : List Instr = call_code (address m0) (address kb) in
    let same : c0 ≡ c1 = ap (λ (k : ℕ). call_code k (x.at 1)) to_is ∙ ap (λ (k : ℕ). call_code (address m0) k) x.at_exit in
    let whole : first_code x.at mid ≡ set2 ++ c1 = sym (append_assoc lui ori c0) ∙ ap (λ (c : List Instr). set2 ++ c) same in
    let w0 : Stands p.text 0 (set2 ++ c1) = subst (λ (k : ℕ). Stands p.text k (set2 ++ c1)) x.begins (subst (λ (c : List Instr). Stands p.text (x.place 0) c) whole x.first) in
    let y0 : Done p.text (Good p.text) (cells mid) 0 set2 s0 a1 = stack_set mid p a0 set.small 0 s0 (stands_first p.text 0 set2 c1 w0) (before_start mid p.text input) d0 in
    let w1 : Stands p.text 6 c1 = stands_rest p.text 0 set2 c1 w0 in
    let kb_is : kb ≡ 6 + 6 = sym (ap (λ (k : ℕ). k + length (first_code x.at mid)) (sym x.begins) ∙ x.behind_first) in
    let g0 : Arrives p.text (cells mid) m0 y0.now a2 = goes_call p (cells mid) 6 m0 (address kb) a1 y0.now (ap (λ (k : ℕ). address k) kb_is) (low_block mid places p x 0 0 f at blk fe ae be) w1 y0.before y0.tripled in
    let room : f.pairs ≤ cells mid = le_trans fits (right_left (global_cells mid) mid.chain_pairs) in
    let top : ℕ = cells mid - f.pairs in
    let sa : StackAt (cells mid) (cells mid) a2 = record { stack = refl; room = le_refl (cells mid); small = set.small } in
    let en : (a' : Sight) × Does p (cells mid) (enter_code at f.pairs f.params) a2 a' × Entered a2 a' at f.pairs f.params top (address kb) =
    enters p (cells mid) (cells mid) f.pairs f.params (address kb) at a2 sa flow.has_pair flow.pairs_fit room refl
    (λ j h. absurd (no_params j f.params none h)) (λ j q k h l. absurd (no_params j f.params none h)) in
    let z : Entered a2 en.0 at f.pairs f.params top (address kb) = en.2 in
    let ec : List Instr = enter_code at f.pairs f.params in
    let more : List Instr = rest_code x.at mid 0 0 f at blk 0 in
    let wb : Stands p.text m0 (ec ++ more) = x.block 0 0 f at blk fe ae be in
    let y : Done p.text (Good p.text) (cells mid) m0 ec g0.now en.0 = en.1 m0 g0.now (stands_first p.text m0 ec more wb) g0.before g0.tripled in
    let above : global_cells mid ≤ top = above_globals (global_cells mid) mid.chain_pairs f.pairs fits in (
      y0.steps + suc g0.steps + y.steps,
      y.now,
      leads_on machine (Good p.text) (y0.steps + suc g0.steps) y.steps s0 g0.now y.now (leads_on machine (Good p.text) y0.steps (suc g0.steps) s0 y0.now g0.now y0.leads g0.leads) y.leads,
      record {
        going = refl;
        f = f;
        at = at;
        block = blk;
        is_function = fe;
        is_places = ae;
        is_block = be;
        within = Rattle.std.proofs.Common.zero-le;
        a = en.0;
        top = top;
        number = m0 + length ec;
        stands = stands_rest p.text m0 ec more wb;
        ends = behind_both m0 ec more ∙ x.behind 0 0 f at blk fe ae be;
        before = y.before;
        tripled = y.tripled;
        frame = record { stack = z.stack; room = whole_room (cells mid) f.pairs room; small = set.small; pairs_fit = flow.pairs_fit };
        above = above;
        holds = record { word = λ v q n e. absurd (none_is q e) };
        globals = record {
          word = λ g i h k. z.cell (global_cell mid g + i) (off_top (global_cells mid) (global_cell mid g + i) top (global_below mid g i k) above) ∙ flat_get mid.globals g i k;
          lengths = λ g. refl;
          count = refl;
        };
        waits = (back_up (cells mid) f.pairs room, z.link_cell, subst (λ (k : ℕ). BehindCall p.text k) (sym kb_is) (behind_call p 6 (address m0) (address kb) w1), refl);
        feed = sym (ap (λ (k : ℕ). drop k en.0.feed) z.fed ∙ z.feed);
        all = z.feed;
      },
    )
  where
    right_left : (g c : ℕ) → c ≤ g + c
    right_left g c = omega arith

    no_params : (j n : ℕ) → n ≡ 0 → j < n → ⊥
    no_params j n e h = omega arith

    whole_room : (n q : ℕ) → q ≤ n → n - q + q ≤ n
    whole_room n q h = omega arith

    back_up : (n q : ℕ) → q ≤ n → n - q + q ≡ n
    back_up n q h = omega arith

    above_globals : (g c q : ℕ) → q ≤ c → g ≤ g + c - q
    above_globals g c q h = omega arith

    none_is : (q : ℕ) → ◌≡◌ {A = Option ℕ} None (Some q) → ⊥
    none_is q e = cc

    off_top : (g c t : ℕ) → c < g → g ≤ t → c ≢ t
    off_top g c t h k = λ e. omega arith
