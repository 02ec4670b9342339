use Rattle.std.proofs.Common.{◌≡◌, ◌++◌, map, take}
use Rattle.ss_names_uses.proofs.Common.{flat_map, in_phrase, view_phrase_tree}
use Rattle.ss_names_uses.proofs.heads.add_phrases.Given as goal

abbrev pub invariant-loop-phrase : goal.invariant-loop-phrase
invariant-loop-phrase l = l.into.items ≡ l.initial.into.items ++ flat_map (in_phrase l.line) (map view_phrase_tree (take l.phrase-index l.phrases))
