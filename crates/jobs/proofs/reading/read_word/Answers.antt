-- The symbols, or one that is missing.
use Rattle.std.proofs.lemmas.Result.{MatchResult-weaker}
use Rattle.jobs.proofs.Words.{no_symbol, word_read}
use Rattle.jobs.proofs.reading.read_word.Goals as goal

pub returns : goal.returns
returns c =
    let bytes = c.args.bytes.now in
    let j = c.in_ok-_count.ensures in
    MatchResult-weaker c.read_part.result c.read_part.ensures (λ s p. word_read bytes s.now _ _ _ j p) (λ e p. no_symbol bytes _ _ _ e j p)
