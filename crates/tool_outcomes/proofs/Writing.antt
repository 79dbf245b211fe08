-- Texts that are written one after another.
use Rattle.std.proofs.Common.{◌≡◌, ℕ, ◌+◌, ◌<◌, Bool, List, [], ◌∷◌, ◌++◌, length, take, drop, get_or, ap, sym, ◌∙◌, subst, append_assoc, append-nil, refl}
use Rattle.std.specs.Prelude.{Result, Ok, Err, OnOk, OnErr, IsTrue}
use Rattle.std.specs.List.{flat_map}
use Rattle.std.proofs.lemmas.List.{take_more, take-append-drop}
use Rattle.std.proofs.lemmas.List.Concat.{flat_map-append}
use Rattle.hard_shelf.specs.Outside.{AppendsPart}
use Rattle.hard_shelf.specs.declared.sink.SinkFault.{SinkFault}
use Rattle.fault_replay.proofs.Parts.{part_front, part_behind}
use Rattle.tool_outcomes.specs.Parts.{Writes}

-- a fault in the first text is one in the whole
pub writes_front : (tells : Type 0) (before after : List ℕ) (rose : Type 0) (text more whole : List ℕ) (fault : SinkFault)
    → whole ≡ text ++ more → Writes tells before after rose text (Err fault) → Writes tells before after rose whole (Err fault)
writes_front tells before after rose text more whole fault e w = record { ok = tt; fault = w.fault; part = λ t. part_front before after text whole more e (w.part t) }

-- the last text, behind those that were written
pub writes_behind : (old now : Bool) (before mid after : List ℕ) (rose later : Type 0) (text more : List ℕ) (work : Result (Unit {0}) SinkFault)
    → now ≡ old → (IsTrue old → mid ≡ before ++ text) → (later → rose) → Writes (IsTrue now) mid after later more work
    → Writes (IsTrue old) before after rose (text ++ more) work
writes_behind old now before mid after rose later text more (Ok u) e first up w = record {
  ok = λ t. w.ok (subst IsTrue (sym e) t) ∙ ap (λ (l : List ℕ). l ++ more) (first t) ∙ append_assoc before text more;
  fault = tt;
  part = tt;
}
writes_behind old now before mid after rose later text more (Err f) e first up w = record {
  ok = tt;
  fault = up w.fault;
  part = λ t. part_behind before mid after text more (first t) (w.part (subst IsTrue (sym e) t));
}

-- a line that did not go out whole, before more of them
pub line_front : (tells : Type 0) (before after : List ℕ) (rose : Type 0) (line is more : List ℕ) (fault : SinkFault)
    → line ≡ is → rose → (tells → AppendsPart before after line) → Writes tells before after rose (is ++ more) (Err fault)
line_front tells before after rose line is more fault e up part = record {
  ok = tt;
  fault = up;
  part = λ t. part_front before after is (is ++ more) more refl (subst (λ (l : List ℕ). AppendsPart before after l) e (part t));
}

-- a line that went out, before more of them
pub line_behind : (old now : Bool) (before mid after : List ℕ) (rose later : Type 0) (line is more : List ℕ) (work : Result (Unit {0}) SinkFault)
    → now ≡ old → (IsTrue old → mid ≡ before ++ line) → line ≡ is → (later → rose) → Writes (IsTrue now) mid after later more work
    → Writes (IsTrue old) before after rose (is ++ more) work
line_behind old now before mid after rose later line is more work e first same up w =
    writes_behind old now before mid after rose later is more work e (λ t. first t ∙ ap (λ (l : List ℕ). before ++ l) same) up w

-- the last line
pub line_last : (tells : Type 0) (before after : List ℕ) (rose : Type 0) (line is : List ℕ) (work : Result (Unit {0}) SinkFault)
    → line ≡ is → OnOk work (tells → after ≡ before ++ line) → OnErr work rose → OnErr work (tells → AppendsPart before after line)
    → Writes tells before after rose is work
line_last tells before after rose line is work e ok fault part =
    subst (λ (l : List ℕ). Writes tells before after rose l work) e (record { ok = ok; fault = fault; part = part })

-- a fault in the line of one element is one in the lines of all
pub line_stopped : {X : Type 0} (old now : Bool) (before mid after : List ℕ) (rose later : Type 0) (f : X → List ℕ) (all : List X) (at : ℕ) (d : X) (line : List ℕ) (fault : SinkFault)
    → now ≡ old → at < length all → (IsTrue old → mid ≡ before ++ flat_map f (take at all)) → (later → rose) → line ≡ f (get_or all at d)
    → later → (IsTrue now → AppendsPart mid after line) → Writes (IsTrue old) before after rose (flat_map f all) (Err fault)
line_stopped {X} old now before mid after rose later f all at d line fault e within first up is late part =
    let done : List ℕ = flat_map f (take at all) in
    let one : List ℕ = f (get_or all at d) in
    let next : flat_map f (take (at + 1) all) ≡ done ++ one =
    ap (λ (l : List X). flat_map f l) (take_more all at d within) ∙ flat_map-append f (take at all) (get_or all at d ∷ []) ∙ ap (λ (l : List ℕ). done ++ l) (append-nil one) in
    let whole : flat_map f all ≡ (done ++ one) ++ flat_map f (drop (at + 1) all) =
    ap (λ (l : List X). flat_map f l) (sym (take-append-drop (at + 1) all)) ∙ flat_map-append f (take (at + 1) all) (drop (at + 1) all)
    ∙ ap (λ (l : List ℕ). l ++ flat_map f (drop (at + 1) all)) next in
    record {
      ok = tt;
      fault = up late;
      part = λ t. part_front before after (done ++ one) (flat_map f all) (flat_map f (drop (at + 1) all)) whole
          (part_behind before mid after done one (first t) (subst (λ (l : List ℕ). AppendsPart mid after l) is (part (subst IsTrue (sym e) t))));
    }
