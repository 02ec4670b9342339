use Rattle.ss_records_words.proofs.ReadBack.{text_read}
use Rattle.ss_records_words.proofs.words.text_words.Goals as goal

pub returns : goal.returns
returns c = text_read c.args.text _ _ _ _ c.bytes-bytes.ensures.text c.bytes-bytes.ensures.value c.copy_from_slice.ensures.after c.word_of-first.ensures c.word_of-second.ensures
