-- What a caller sees of an adapter over std: the stream below it, or what it counted.
use Rattle.kl_io.specs.Calls.{Calls}
use Rattle.kl_io.specs.declared.std_source.StdSource.{StdSource}
use Rattle.kl_io.specs.declared.std_sink.StdSink.{StdSink}
use Rattle.kl_io.specs.declared.std_words.StdWords.{StdWords}

-- the reader that a source reads
abbrev pub reader_of : {R : Type 0} → StdSource R → R
reader_of source = source.inner

-- the writer that a sink writes to
abbrev pub writer_of : {W : Type 0} → StdSink W → W
writer_of sink = sink.inner

-- the calls of words
abbrev pub draws_of : {R : Type 0} → StdWords R → Calls
draws_of words = words.counter
