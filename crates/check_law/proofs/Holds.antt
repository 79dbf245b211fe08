-- States of two runs, of a program with names and of the program with positions, in which all names in force designate the same.
use Rattle.std.proofs.Common.{◌≡◌, ℕ, zero, suc, Bool, true, false, List, [], ◌∷◌, ◌++◌, length, Option, Some, None, option_map, refl, sym, ap, ◌∙◌, subst, if◌then◌else◌, ◌==◌}
use Rattle.std.proofs.lemmas.Bool.{eqb-true, eqb-false}
use Rattle.c_meaning.specs.declared.run.Value.{Value}
use Rattle.c_meaning.specs.Run.{Entry, Object, Global, State, Run, stop, innermost, find_global, designated, put_innermost, change_global, put_scalar, put_element, stored, entered as entered_entry, enter, without_first, open_scope, close_scope, open_call, close_call, spend_from, spend, put_out, next_of, take_in, most_active, begin_if, begin_active, end_active, counted}
use Rattle.check_rules.specs.declared.names.Kind.{Kind}
use Rattle.check_rules.specs.declared.names.Kind.TheVariants.{Scalar, Array, Function}
use Rattle.check_rules.specs.declared.names.Known.{Known}
use Rattle.check_rules.specs.Scopes.{Scope, lookup, innermost_known, Walking, in_force, entered}
use Rattle.check_rules.specs.Walk.{is_scalar, is_array}
use Rattle.check_law.proofs.Sims.{Alike, Sims, Equal, sims_on, sims_pure}
use Rattle.check_law.proofs.Positions.{onto, stacked, NotIn, Distinct, Below, one_name, clear, same_known}
use Rattle.check_law.proofs.Cells.{Cell, static, by_name, by_position, InAll, in_all, not_in_scopes, not_in_positions}
use Rattle.check_law.proofs.ExpressionRuns.{Steps}

-- the scopes of a call, under names and under positions, where these declarations are in force
pub record Frames (L : List Scope) (c c' : List (List Entry)) : Type 0 where
  pub cells : List (List Cell)
  pub scopes : static cells ≡ L
  pub left : c ≡ by_name cells
  pub right : c' ≡ by_position cells

-- all but the scopes, where F is the file scope of the whole program
pub record World (F : Scope) (s s' : State) : Type 0 where
  pub global : (n : ℕ) (d : Known) → lookup n F ≡ Some d → find_global n s.globals ≡ find_global d.position s'.globals
  pub input : s.input ≡ s'.input
  pub output : s.output ≡ s'.output
  pub fuel : s.fuel ≡ s'.fuel
  pub active : s.active ≡ s'.active

pub record Holds (F : Scope) (L : List Scope) (s s' : State) : Type 0 where
  pub world : World F s s'
  pub frames : Frames L s.scopes s'.scopes

-- all that is in force in one is in force in the other
pub record Sub (a b : Scope) : Type 0 where
  pub at : (n : ℕ) (d : Known) → lookup n a ≡ Some d → lookup n b ≡ Some d

pub sub_refl : (a : Scope) → Sub a a
sub_refl a = record { at = λ n d is. is }

pub sub_trans : {a b c : Scope} → Sub a b → Sub b c → Sub a c
sub_trans p q = record { at = λ n d is. q.at n d (p.at n d is) }

-- what each part of the walk keeps: the positions in force differ and are those of declarations, and blocks have variables only
pub record Sound (w : Walking) : Type 0 where
  pub distinct : Distinct (stacked w.blocks (onto w.file []))
  pub below : Below (length w.decls) (stacked w.blocks (onto w.file []))
  pub variables : (n : ℕ) (d : Known) → innermost_known n w.blocks ≡ Some d → is_scalar d.kind ≡ true

-- ---- stores

pub find-change : (n m : ℕ) (f : Object → Object) (gs : List Global) → find_global m (change_global n f gs) ≡ (if n == m then option_map f (find_global m gs) else find_global m gs)
find-change n m f [] = at (n == m)
  where
    at : (b : Bool) → None ≡ (if b then option_map f None else None)
    at true = refl
    at false = refl
find-change n m f (g ∷ gs) = at (g.name == n) (g.name == m) (n == m) refl refl refl (find-change n m f gs)
  where
    at : (a b c : Bool) → (g.name == n) ≡ a → (g.name == m) ≡ b → (n == m) ≡ c → find_global m (change_global n f gs) ≡ (if n == m then option_map f (find_global m gs) else find_global m gs) → find_global m (change_global n f (g ∷ gs)) ≡ (if n == m then option_map f (find_global m (g ∷ gs)) else find_global m (g ∷ gs))
    at true true true p q r ih = rw (p, q, r) refl
    at true true false p q r ih = absurd (eqb-false n m r (sym (eqb-true g.name n p) ∙ eqb-true g.name m q))
    at true false true p q r ih = absurd (eqb-false g.name m q (eqb-true g.name n p ∙ eqb-true n m r))
    at true false false p q r ih = rw (p, q, r) refl
    at false true true p q r ih = absurd (eqb-false g.name n p (eqb-true g.name m q ∙ sym (eqb-true n m r)))
    at false true false p q r ih = rw (p, q, r) refl
    at false false c p q r ih = rw (p, q) ih

changed_globals : (F : Scope) → Distinct (onto F []) → (n : ℕ) (d : Known) → lookup n F ≡ Some d → (f : Object → Object) (gs gs' : List Global) → ((m : ℕ) (e : Known) → lookup m F ≡ Some e → find_global m gs ≡ find_global e.position gs') → (m : ℕ) (e : Known) → lookup m F ≡ Some e → find_global m (change_global n f gs) ≡ find_global e.position (change_global d.position f gs')
changed_globals F x n d is f gs gs' same m e js = rw (find-change n m f gs, find-change d.position e.position f gs') (at (n == m) (d.position == e.position) refl refl)
  where
    at : (a b : Bool) → (n == m) ≡ a → (d.position == e.position) ≡ b → (if n == m then option_map f (find_global m gs) else find_global m gs) ≡ (if d.position == e.position then option_map f (find_global e.position gs') else find_global e.position gs')
    at true true p q = rw (p, q) (ap (option_map f) (same m e js))
    at true false p q = absurd (eqb-false d.position e.position q (ap (λ k. k.position) (same_known n m F d e (eqb-true n m p) is js)))
    at false true p q = absurd (eqb-false n m p (one_name F [] n d m e x is js (eqb-true d.position e.position q)))
    at false false p q = rw (p, q) (same m e js)

with_scopes : (F : Scope) (s s' : State) (c c' : List (List Entry)) → World F s s' → World F (record s { scopes = c }) (record s' { scopes = c' })
with_scopes F s s' c c' w = record { global = w.global; input = w.input; output = w.output; fuel = w.fuel; active = w.active }

-- ---- what a name in force designates

module _ (F : Scope) (one : Distinct (onto F [])) (w : Walking) (sound : Sound w) (sub : Sub w.file F) where
  -- a name in force is one of a block, or of the file
  pub data Whence (n : ℕ) (d : Known) : Type 0 where
    of_block : innermost_known n w.blocks ≡ Some d → Whence n d
    of_file : innermost_known n w.blocks ≡ None → lookup n w.file ≡ Some d → Whence n d

  pub whence : (n : ℕ) (d : Known) → in_force w n ≡ Some d → Whence n d
  whence n d is = at (innermost_known n w.blocks) refl
    where
      at : (o : Option Known) → innermost_known n w.blocks ≡ o → Whence n d
      at (Some k) found = let h = rw found at is in of_block (found ∙ h)
      at None found = let h = rw found at is in of_file found h

  both : (c c' : List (List Entry)) → (f : Frames w.blocks c c') (n : ℕ) (d : Known) → innermost_known n w.blocks ≡ Some d → InAll n d f.cells
  both c c' f n d is = in_all n d f.cells (onto w.file []) (subst (λ l. Distinct (stacked l (onto w.file []))) (sym f.scopes) sound.distinct) (subst (λ l. innermost_known n l ≡ Some d) (sym f.scopes) is)

  no_name : (c c' : List (List Entry)) → Frames w.blocks c c' → (n : ℕ) → innermost_known n w.blocks ≡ None → innermost n c ≡ None
  no_name c c' f n is = ap (innermost n) f.left ∙ not_in_scopes n f.cells (subst (λ l. innermost_known n l ≡ None) (sym f.scopes) is)

  no_position : (c c' : List (List Entry)) → Frames w.blocks c c' → (n : ℕ) (d : Known) → lookup n w.file ≡ Some d → innermost d.position c' ≡ None
  no_position c c' f n d is = ap (innermost d.position) f.right ∙ not_in_positions d.position f.cells [] (subst (λ l. NotIn d.position (stacked l [])) (sym f.scopes) (clear w.blocks w.file n d sound.distinct is))

  object_at : (s s' : State) → Holds F w.blocks s s' → (n : ℕ) (d : Known) → Whence n d → designated n s ≡ designated d.position s'
  object_at s s' h n d (of_block is) =
      let t = both s.scopes s'.scopes h.frames n d is in
      let l : innermost n s.scopes ≡ Some t.value = ap (innermost n) h.frames.left ∙ t.left in
      let r : innermost d.position s'.scopes ≡ Some t.value = ap (innermost d.position) h.frames.right ∙ t.right in
      rw (l, r) refl
  object_at s s' h n d (of_file none is) =
      let l : innermost n s.scopes ≡ None = no_name s.scopes s'.scopes h.frames n none in
      let r : innermost d.position s'.scopes ≡ None = no_position s.scopes s'.scopes h.frames n d is in
      rw (l, r) (h.world.global n d (sub.at n d is))

  write_at : (s s' : State) → Holds F w.blocks s s' → (n : ℕ) (d : Known) (word : ℕ) → Whence n d → Holds F w.blocks (stored (innermost n s.scopes) n word s) (stored (innermost d.position s'.scopes) d.position word s')
  write_at s s' h n d word (of_block is) =
      let t = both s.scopes s'.scopes h.frames n d is in
      let l : innermost n s.scopes ≡ Some t.value = ap (innermost n) h.frames.left ∙ t.left in
      let r : innermost d.position s'.scopes ≡ Some t.value = ap (innermost d.position) h.frames.right ∙ t.right in
      let put = t.put word in
      rw (l, r) (record {
        world = with_scopes F s s' (put_innermost n word s.scopes) (put_innermost d.position word s'.scopes) h.world;
        frames = record { cells = put.cells; scopes = put.same ∙ h.frames.scopes; left = ap (put_innermost n word) h.frames.left ∙ put.left; right = ap (put_innermost d.position word) h.frames.right ∙ put.right };
      })
  write_at s s' h n d word (of_file none is) =
      let l : innermost n s.scopes ≡ None = no_name s.scopes s'.scopes h.frames n none in
      let r : innermost d.position s'.scopes ≡ None = no_position s.scopes s'.scopes h.frames n d is in
      rw (l, r) (record {
        world = record { global = changed_globals F one n d (sub.at n d is) (put_scalar word) s.globals s'.globals h.world.global; input = h.world.input; output = h.world.output; fuel = h.world.fuel; active = h.world.active };
        frames = h.frames;
      })

  both_kinds : (k : Kind) → is_scalar k ≡ true → is_array k ≡ true → ⊥
  both_kinds (Scalar is_const) p q = cc
  both_kinds (Array is_const) p q = cc
  both_kinds (Function ty params) p q = cc

  write_element_at : (s s' : State) → Holds F w.blocks s s' → (n : ℕ) (d : Known) → is_array d.kind ≡ true → (index word : ℕ) → Whence n d → Holds F w.blocks (record s { globals = change_global n (put_element index word) s.globals }) (record s' { globals = change_global d.position (put_element index word) s'.globals })
  write_element_at s s' h n d such index word (of_block is) = absurd (both_kinds d.kind (sound.variables n d is) such)
  write_element_at s s' h n d such index word (of_file none is) = record {
    world = record { global = changed_globals F one n d (sub.at n d is) (put_element index word) s.globals s'.globals h.world.global; input = h.world.input; output = h.world.output; fuel = h.world.fuel; active = h.world.active };
    frames = h.frames;
  }

  pub steps : Steps (in_force w) (Holds F w.blocks)
  steps = record {
    same_output = λ s s' h. h.world.output;
    same_object = λ s s' h n d is. object_at s s' h n d (whence n d is);
    on_write = λ s s' h n d is word. write_at s s' h n d word (whence n d is);
    on_write_element = λ s s' h n d is such index word. write_element_at s s' h n d such index word (whence n d is);
  }

-- ---- steps that change the scopes, the input, the output or the fuel

module _ (F : Scope) where
  pub sims_end : {A A' : Type 0} {L : List Scope} {post : A → A' → State → State → Type 0} (end : _) → Sims (Holds F L) (stop {A = A} end) (stop {A = A'} end) post
  sims_end end = record { by = λ s s' h. (refl, h.world.output) }

  spend_alike : (L : List Scope) (s s' : State) → Holds F L s s' → (n : ℕ) → Alike (Equal (Holds F L)) (spend_from n s) (spend_from n s')
  spend_alike L s s' h zero = (refl, h.world.output)
  spend_alike L s s' h (suc n) = (refl, record { world = record { global = h.world.global; input = h.world.input; output = h.world.output; fuel = refl; active = h.world.active }; frames = h.frames })

  pub sims_spend : (L : List Scope) → Sims (Holds F L) spend spend (Equal (Holds F L))
  sims_spend L = record { by = λ s s' h. subst (λ n. Alike (Equal (Holds F L)) (spend s) (spend_from n s')) h.world.fuel (spend_alike L s s' h s.fuel) }

  pub sims_put_out : (L : List Scope) (word : ℕ) → Sims (Holds F L) (put_out word) (put_out word) (Equal (Holds F L))
  sims_put_out L word = record { by = λ s s' h. (refl, record { world = record { global = h.world.global; input = h.world.input; output = ap (λ o. o ++ word ∷ []) h.world.output; fuel = h.world.fuel; active = h.world.active }; frames = h.frames }) }

  next_alike : (L : List Scope) (s s' : State) → Holds F L s s' → (words : List ℕ) → Alike (Equal (Holds F L)) (next_of words s) (next_of words s')
  next_alike L s s' h [] = (refl, h.world.output)
  next_alike L s s' h (word ∷ words) = (refl, record { world = record { global = h.world.global; input = refl; output = h.world.output; fuel = h.world.fuel; active = h.world.active }; frames = h.frames })

  pub sims_take_in : (L : List Scope) → Sims (Holds F L) take_in take_in (Equal (Holds F L))
  sims_take_in L = record { by = λ s s' h. subst (λ ws. Alike (Equal (Holds F L)) (take_in s) (next_of ws s')) h.world.input (next_alike L s s' h s.input) }

  -- nothing is given, and these declarations are in force then
  abbrev pub Then : List Scope → Unit {0} → Unit {0} → State → State → Type 0
  Then L u u' s s' = Holds F L s s'

  pub sims_open : (L : List Scope) → Sims (Holds F L) open_scope open_scope (Then ([] ∷ L))
  sims_open L = record { by = λ s s' h. record { world = with_scopes F s s' _ _ h.world; frames = record { cells = [] ∷ h.frames.cells; scopes = ap (λ l. [] ∷ l) h.frames.scopes; left = ap (λ l. [] ∷ l) h.frames.left; right = ap (λ l. [] ∷ l) h.frames.right } } }

  closed_frames : (L : List Scope) (c c' : List (List Entry)) → Frames L c c' → Frames (without_first L) (without_first c) (without_first c')
  closed_frames L c c' f = at f.cells f.scopes f.left f.right
    where
      at : (cells : List (List Cell)) → static cells ≡ L → c ≡ by_name cells → c' ≡ by_position cells → Frames (without_first L) (without_first c) (without_first c')
      at [] p q r = record { cells = []; scopes = ap without_first p; left = ap without_first q; right = ap without_first r }
      at (cs ∷ css) p q r = record { cells = css; scopes = ap without_first p; left = ap without_first q; right = ap without_first r }

  pub sims_close : (L : List Scope) → Sims (Holds F L) close_scope close_scope (Then (without_first L))
  sims_close L = record { by = λ s s' h. record { world = with_scopes F s s' _ _ h.world; frames = closed_frames L s.scopes s'.scopes h.frames } }

  entered_frames : (L : List Scope) (c c' : List (List Entry)) (n : ℕ) (d : Known) (v : Value) → Frames L c c' → Frames (entered (record { name = n; known = d }) L) (entered_entry n v c) (entered_entry d.position v c')
  entered_frames L c c' n d v f = at f.cells f.scopes f.left f.right
    where
      at : (cells : List (List Cell)) → static cells ≡ L → c ≡ by_name cells → c' ≡ by_position cells → Frames (entered (record { name = n; known = d }) L) (entered_entry n v c) (entered_entry d.position v c')
      at [] p q r = record { cells = (record { name = n; known = d; value = v } ∷ []) ∷ []; scopes = ap (entered (record { name = n; known = d })) p; left = ap (entered_entry n v) q; right = ap (entered_entry d.position v) r }
      at (cs ∷ css) p q r = record { cells = (record { name = n; known = d; value = v } ∷ cs) ∷ css; scopes = ap (entered (record { name = n; known = d })) p; left = ap (entered_entry n v) q; right = ap (entered_entry d.position v) r }

  pub sims_enter : (L : List Scope) (n : ℕ) (d : Known) (v : Value) → Sims (Holds F L) (enter n v) (enter d.position v) (Then (entered (record { name = n; known = d }) L))
  sims_enter L n d v = record { by = λ s s' h. record { world = with_scopes F s s' _ _ h.world; frames = entered_frames L s.scopes s'.scopes n d v h.frames } }

  -- a call begins, and the scopes of its caller are given; a call ends
  abbrev pub Saved : List Scope → List Scope → List (List Entry) → List (List Entry) → State → State → Type 0
  Saved L L' c c' s s' = Frames L c c' × Holds F L' s s'

  pub sims_open_call : (L L' : List Scope) (e e' : List Entry) → Frames L' (e ∷ []) (e' ∷ []) → Sims (Holds F L) (open_call e) (open_call e') (Saved L L')
  sims_open_call L L' e e' f = record { by = λ s s' h. (h.frames, record { world = with_scopes F s s' _ _ h.world; frames = f }) }

  pub sims_close_call : (L L' : List Scope) (c c' : List (List Entry)) → Frames L c c' → Sims (Holds F L') (close_call c) (close_call c') (Then L)
  sims_close_call L L' c c' f = record { by = λ s s' h. record { world = with_scopes F s s' _ _ h.world; frames = f } }

  -- ---- active calls

  begin_alike : (L : List Scope) (s s' : State) → Holds F L s s' → (b : Bool) → Alike (Equal (Holds F L)) (begin_if b s) (begin_if b s')
  begin_alike L s s' h true = (refl, h.world.output)
  begin_alike L s s' h false = (h.world.active, record { world = record { global = h.world.global; input = h.world.input; output = h.world.output; fuel = h.world.fuel; active = ap suc h.world.active }; frames = h.frames })

  sims_begin : (L : List Scope) → Sims (Holds F L) begin_active begin_active (Equal (Holds F L))
  sims_begin L = record { by = λ s s' h. subst (λ n. Alike (Equal (Holds F L)) (begin_if (s.active == most_active) s) (begin_if (n == most_active) s')) h.world.active (begin_alike L s s' h (s.active == most_active)) }

  sims_end_active : (L : List Scope) (before : ℕ) → Sims (Holds F L) (end_active before) (end_active before) (Equal (Holds F L))
  sims_end_active L before = record { by = λ s s' h. (refl, record { world = record { global = h.world.global; input = h.world.input; output = h.world.output; fuel = h.world.fuel; active = refl }; frames = h.frames }) }

  pub sims_counted : {A : Type 0} (L : List Scope) (recursive : Bool) {m m' : Run A} → Sims (Holds F L) m m' (Equal (Holds F L)) → Sims (Holds F L) (counted recursive m) (counted recursive m') (Equal (Holds F L))
  sims_counted L false p = p
  sims_counted L true p = sims_on (sims_begin L) (λ before. sims_on p (λ a. sims_on (sims_end_active L before) (λ u. sims_pure a)))
