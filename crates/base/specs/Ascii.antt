-- Words of ASCII as bytes, so that a definition can spell them.
use Rattle.std.specs.Prelude.{[], ◌∷◌}
use Prim.Native.Char.{code}
use Prim.Native.String.{String}
use Rattle.base.specs.Bytes.{Bytes}

abbrev pub ascii : String → Bytes
ascii String.[] = []
ascii (String.◌∷◌ c s) = code c ∷ ascii s
