-- Two runs side by side: from states that are related each comes to a result, or both end alike.
use Rattle.std.proofs.Common.{◌≡◌, Bool, true, false, refl, subst, if◌then◌else◌}
use Rattle.c_meaning.specs.Run.{State, Outcome, Gives, Ends, Run, and_then, ◌>>=◌, pure}

-- both give results that are so related, or both end alike with the same output
abbrev pub Alike : {A A' : Type 0} → (A → A' → State → State → Type 0) → Outcome A → Outcome A' → Type 0
Alike post (Gives a s) (Gives a' s') = post a a' s s'
Alike post (Gives a s) (Ends end' output') = ⊥
Alike post (Ends end output) (Gives a' s') = ⊥
Alike post (Ends end output) (Ends end' output') = (end ≡ end') × (output ≡ output')

pub record Sims {A A' : Type 0} (pre : State → State → Type 0) (m : Run A) (m' : Run A') (post : A → A' → State → State → Type 0) : Type 0 where
  pub by : (s s' : State) → pre s s' → Alike post (m s) (m' s')

pub alike_then : {A A' B B' : Type 0} (mid : A → A' → State → State → Type 0) (post : B → B' → State → State → Type 0) (o : Outcome A) (o' : Outcome A') (go : A → Run B) (go' : A' → Run B') → Alike mid o o' → ((a : A) (a' : A') (s s' : State) → mid a a' s s' → Alike post (go a s) (go' a' s')) → Alike post (and_then o go) (and_then o' go')
alike_then mid post (Gives a s) (Gives a' s') go go' x f = f a a' s s' x
alike_then mid post (Gives a s) (Ends end' output') go go' x f = absurd x
alike_then mid post (Ends end output) (Gives a' s') go go' x f = absurd x
alike_then mid post (Ends end output) (Ends end' output') go go' x f = x

pub alike_more : {A A' : Type 0} (mid post : A → A' → State → State → Type 0) (o : Outcome A) (o' : Outcome A') → Alike mid o o' → ((a : A) (a' : A') (s s' : State) → mid a a' s s' → post a a' s s') → Alike post o o'
alike_more mid post (Gives a s) (Gives a' s') x f = f a a' s s' x
alike_more mid post (Gives a s) (Ends end' output') x f = absurd x
alike_more mid post (Ends end output) (Gives a' s') x f = absurd x
alike_more mid post (Ends end output) (Ends end' output') x f = x

pub sims_then : {A A' B B' : Type 0} {pre : State → State → Type 0} {m : Run A} {m' : Run A'} {mid : A → A' → State → State → Type 0} {go : A → Run B} {go' : A' → Run B'} {post : B → B' → State → State → Type 0} → Sims pre m m' mid → ((a : A) (a' : A') → Sims (mid a a') (go a) (go' a') post) → Sims pre (m >>= go) (m' >>= go') post
sims_then {m = m} {m' = m'} {mid = mid} {go = go} {go' = go'} {post = post} p q = record { by = λ s s' h. alike_then mid post (m s) (m' s') go go' (p.by s s' h) (λ a a' t t' x. (q a a').by t t' x) }

-- equal results
abbrev pub Equal : {A : Type 0} → (State → State → Type 0) → A → A → State → State → Type 0
Equal P a a' s s' = (a ≡ a') × P s s'

-- after equal results
pub sims_on : {A B B' : Type 0} {pre P : State → State → Type 0} {m m' : Run A} {go : A → Run B} {go' : A → Run B'} {post : B → B' → State → State → Type 0} → Sims pre m m' (Equal P) → ((a : A) → Sims P (go a) (go' a) post) → Sims pre (m >>= go) (m' >>= go') post
sims_on {P = P} {m = m} {m' = m'} {go = go} {go' = go'} {post = post} p q = record { by = λ s s' h. alike_then (Equal P) post (m s) (m' s') go go' (p.by s s' h) (λ a a' t t' x. subst (λ b. Alike post (go a t) (go' b t')) x.0 ((q a).by t t' x.1)) }

pub sims_if : {A A' : Type 0} {pre : State → State → Type 0} {post : A → A' → State → State → Type 0} (b : Bool) {m n : Run A} {m' n' : Run A'} → Sims pre m m' post → Sims pre n n' post → Sims pre (if b then m else n) (if b then m' else n') post
sims_if true p q = p
sims_if false p q = q

pub sims_pure : {A : Type 0} {P : State → State → Type 0} (a : A) → Sims P (pure a) (pure a) (Equal P)
sims_pure a = record { by = λ s s' h. (refl, h) }

pub sims_post : {A A' : Type 0} {pre : State → State → Type 0} {m : Run A} {m' : Run A'} {mid post : A → A' → State → State → Type 0} → Sims pre m m' mid → ((a : A) (a' : A') (s s' : State) → mid a a' s s' → post a a' s s') → Sims pre m m' post
sims_post {m = m} {m' = m'} {mid = mid} {post = post} p f = record { by = λ s s' h. alike_more mid post (m s) (m' s') (p.by s s' h) f }

pub sims_pre : {A A' : Type 0} {pre pre' : State → State → Type 0} {m : Run A} {m' : Run A'} {post : A → A' → State → State → Type 0} → ((s s' : State) → pre' s s' → pre s s') → Sims pre m m' post → Sims pre' m m' post
sims_pre f p = record { by = λ s s' h. p.by s s' (f s s' h) }
