-- A file's reader as a call is lent it and as it leaves it.
use Rattle.reader.specs.declared.ReaderState.{ReaderState}
use Rattle.reader.specs.declared.ReaderView.{ReaderView}
use Rattle.reader.specs.Lent.{state_held, state_seen}
use Rattle.file_lexer.specs.Held.{where_of}
use Rattle.file_reader.specs.File.{FileState}
use Rattle.file_reader.specs.declared.FileReader.{FileReader}
use Rattle.file_reader.specs.declared.FileView.{FileView}

abbrev pub file_held : ReaderState → FileReader → FileState
file_held s f = record { state = state_held s; place = where_of f.lexer.place; feeds = f.lexer.feeds; bytes = f.bytes.now; used = f.lexer.used; named = f.named }

abbrev pub file_seen : ReaderView → FileView → FileState
file_seen s f = record { state = state_seen s; place = where_of f.lexer.place; feeds = f.lexer.feeds; bytes = f.bytes.now; used = f.lexer.used; named = f.named }
