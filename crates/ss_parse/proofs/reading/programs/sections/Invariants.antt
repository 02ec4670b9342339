use Rattle.std.proofs.Common.{◌≡◌, length, map}
use Rattle.ss_parse.proofs.Common.{begins_section, rows, section_in, view_section, with_front}
use Rattle.ss_parse.proofs.reading.programs.sections.Given as goal

abbrev pub invariant-more : goal.invariant-more
invariant-more l = with_front (map view_section l.all.items) (rows begins_section (section_in l.room) l.rest) ≡ rows begins_section (section_in l.room) l.tokens

abbrev pub decreases-more : goal.decreases-more
decreases-more l = length l.rest
