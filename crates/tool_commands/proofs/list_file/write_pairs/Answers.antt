use Rattle.std.proofs.Common.{◌≡◌, ◌++◌, ◌∙◌, List, ℕ, length, refl, sym}
use Rattle.std.specs.List.{flat_map}
use Rattle.std.proofs.lemmas.Result.{err_from_is_err_and}
use Rattle.elf_image.specs.Layout.{fields_of}
use Rattle.mips_isa.specs.Image.{ImageFields}
use Rattle.tool_outcomes.specs.Pairs.{window_line, alias_line, count_line, pair_lines}
use Rattle.tool_outcomes.proofs.Reading.{rises}
use Rattle.tool_outcomes.proofs.Writing.{writes_front, writes_behind}
use Rattle.tool_commands.proofs.list_file.write_pairs.Goals as goal

pub returns-in_err-write_windows-clause-writes : goal.returns-in_err-write_windows-clause-writes
returns-in_err-write_windows-clause-writes g c =
    let image : ImageFields = fields_of c.args.image.now in
    let p = err_from_is_err_and c.from_residual.result c.from_residual.ensures.1 in
    rw p.1 (writes_front _ _ _ _ (flat_map window_line image.windows) (flat_map alias_line image.aliases ++ count_line (length image.windows) (length image.aliases)) (pair_lines image) _ refl
    (rw (sym c.as_slice.ensures) c.in_err-write_windows.ensures.writes))

pub returns-in_err-write_aliases-clause-writes : goal.returns-in_err-write_aliases-clause-writes
returns-in_err-write_aliases-clause-writes g c =
    let image : ImageFields = fields_of c.args.image.now in
    let windows : List ℕ = flat_map window_line c.as_slice.result.now in
    let aliases : List ℕ = flat_map alias_line c.as_slice-2.result.now in
    let counts : List ℕ = count_line (length image.windows) (length image.aliases) in
    let whole : pair_lines image ≡ windows ++ (aliases ++ counts) = rw (c.as_slice.ensures, c.as_slice-2.ensures) refl in
    let p = err_from_is_err_and c.from_residual-in_err-write_aliases.result c.from_residual-in_err-write_aliases.ensures.1 in
    rw (p.1, whole) (writes_behind (g.O.Sink.tells c.args.out.now) (g.O.Sink.tells c.write_windows.new.out) (g.O.Sink.written c.args.out.now) (g.O.Sink.written c.write_windows.new.out) _ _ _ windows (aliases ++ counts) _
    c.write_windows.ensures.tells c.in_ok-write_windows.ensures.writes.ok (λ rose. rises _ _ _ c.write_windows.ensures.count rose)
    (writes_front _ _ _ _ aliases counts (aliases ++ counts) _ refl c.in_err-write_aliases.ensures.writes))

pub returns-clause-writes : goal.returns-clause-writes
returns-clause-writes g c =
    let image : ImageFields = fields_of c.args.image.now in
    let windows : List ℕ = flat_map window_line c.as_slice.result.now in
    let aliases : List ℕ = flat_map alias_line c.as_slice-2.result.now in
    let counts : List ℕ = c.as_slice-3.result.now in
    let counts_are : counts ≡ count_line (length image.windows) (length image.aliases) = c.as_slice-3.ensures.value ∙ (c.count_line.ensures ∙ (rw (c.len.ensures, c.len-2.ensures) refl)) in
    let whole : pair_lines image ≡ windows ++ (aliases ++ counts) = rw (c.as_slice.ensures, c.as_slice-2.ensures, counts_are) refl in
    rw whole (writes_behind (g.O.Sink.tells c.args.out.now) (g.O.Sink.tells c.write_windows.new.out) (g.O.Sink.written c.args.out.now) (g.O.Sink.written c.write_windows.new.out) _ _ _ windows (aliases ++ counts) _
    c.write_windows.ensures.tells c.in_ok-write_windows.ensures.writes.ok (λ rose. rises _ _ _ c.write_windows.ensures.count rose)
    (writes_behind (g.O.Sink.tells c.write_windows.new.out) (g.O.Sink.tells c.write_aliases.new.out) _ (g.O.Sink.written c.write_aliases.new.out) _ _ _ aliases counts _
    c.write_aliases.ensures.tells c.in_ok-write_aliases.ensures.writes.ok (λ rose. rises _ _ _ c.write_aliases.ensures.count rose)
    (record { ok = c.write.ensures.ok; fault = c.write.ensures.fault; part = c.write.ensures.part })))
