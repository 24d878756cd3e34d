use Rattle.std.proofs.Common.{◌≡◌, ◌++◌}
use Rattle.frames.specs.Tables.{cell, program_of}
use Rattle.session.specs.Session.{answer_frame, method_lines}
use Rattle.session.specs.Writing.{line_of}
use Rattle.session.proofs.frames_of.put_accepted.Given as goal

abbrev pub invariant-loop-m : goal.invariant-loop-m
invariant-loop-m l = l.page ≡ line_of (answer_frame l.methods l.rounds) ++ method_lines (program_of (cell l.tables.bytes)) l.answer l.m
