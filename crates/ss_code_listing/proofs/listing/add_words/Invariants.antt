use Rattle.std.proofs.Common.{◌≡◌, ◌++◌, drop}
use Rattle.ss_code_listing.specs.Listing.{without_feeds}
use Rattle.ss_code_listing.proofs.listing.add_words.Given as goal

abbrev pub invariant-loop-word : goal.invariant-loop-word
invariant-loop-word l = l.text.items ++ without_feeds (drop l.word-index l.words) ≡ l.initial.text.items ++ without_feeds l.words
