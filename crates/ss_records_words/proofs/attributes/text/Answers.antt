use Rattle.ss_records_words.proofs.attributes.text.Goals as goal

pub returns : goal.returns
returns c = rw (c.number-first.ensures, c.number-second.ensures) c.text_in.ensures
