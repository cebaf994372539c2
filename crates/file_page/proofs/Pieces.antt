-- A file in pieces, read up to the first in which a markup is refused, is the whole file.
use Rattle.reader.specs.declared.RefusedAt.{RefusedAt}
use Rattle.std.specs.Prelude.{Ok, Err, Result}
use mathlib.Core.Path.{◌≡◌, refl, sym, ◌∙◌, ap}
use mathlib.Core.List.{List, [], ◌∷◌, ◌++◌, flatten}
use Rattle.base.specs.Bytes.{Bytes}
use Rattle.file_reader.specs.File.{FileState, FileResult, bytes_onward, file_byte, file_bytes}
use Rattle.file_page.specs.Roadfile.{onward_read, read_on}

onward_same : (s t : Bytes) (x : Result Unit RefusedAt) (f : FileState)
    → ((g : FileState) → file_bytes (s ++ t) g ≡ bytes_onward (file_bytes t) (file_bytes s g).answer (file_bytes s g).file)
    → bytes_onward (file_bytes (s ++ t)) x f ≡ bytes_onward (file_bytes t) (bytes_onward (file_bytes s) x f).answer (bytes_onward (file_bytes s) x f).file
onward_same s t (Ok tt) f h = h f
onward_same s t (Err a) f h = refl

-- bytes more are read behind those before, where none of these was refused
pub bytes_more : (s t : Bytes) (f : FileState) → file_bytes (s ++ t) f ≡ bytes_onward (file_bytes t) (file_bytes s f).answer (file_bytes s f).file
unfolding file_bytes
bytes_more [] t f = refl
bytes_more (b ∷ s) t f = onward_same s t (file_byte b f).answer (file_byte b f).file (bytes_more s t)

onward_whole : (ps : List Bytes) (x : Result Unit RefusedAt) (f : FileState) → ((g : FileState) → read_on ps g ≡ (file_bytes (flatten ps) g).file)
    → onward_read (read_on ps) x f ≡ (bytes_onward (file_bytes (flatten ps)) x f).file
onward_whole ps (Ok tt) f h = h f
onward_whole ps (Err a) f h = refl

pub pieces_whole : (ps : List Bytes) (f : FileState) → read_on ps f ≡ (file_bytes (flatten ps) f).file
unfolding read_on file_bytes flatten
pieces_whole [] f = refl
pieces_whole (p ∷ ps) f =
    onward_whole ps (file_bytes p f).answer (file_bytes p f).file (pieces_whole ps) ∙ ap (λ (z : FileResult). z.file) (sym (bytes_more p (flatten ps) f))
