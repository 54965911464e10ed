-- Document 01, "The listing program": the line that scanlist prints for each thing that a recording comes to.
use Rattle.std.specs.Prelude.{List, [], ◌∷◌, ◌++◌, ℕ}
use Rattle.lines.specs.Lines.{line_with, refused_line, bad_scan as bad_scan_line, bad_program as bad_program_line}
use Rattle.calls.specs.declared.Scanned.{Scanned}
use Rattle.playback.specs.Playback.{Came, ran, refused, bad_scan, cut_scan, bad_program, cut_program}

-- "Per scan it prints time, steps, held, missed"
abbrev pub line_of : Scanned → List ℕ
line_of a = line_with a.state.time a.steps a.state.journal.held a.state.journal.missed

-- "`bad program`", "`refused N at P`", "`bad scan`"
abbrev pub line_for : Came → List ℕ
line_for (ran x a) = line_of a
line_for (refused n at) = refused_line n at
line_for bad_scan = bad_scan_line
line_for cut_scan = bad_scan_line
line_for bad_program = bad_program_line
line_for cut_program = bad_program_line

abbrev pub lines_for : List Came → List ℕ
lines_for [] = []
lines_for (c ∷ cs) = line_for c ++ lines_for cs
