-- Words on an option, which `option_map` and the like of std do not have in this order.
use Rattle.std.specs.Prelude.{Option, Some, None}

-- what comes of a value, or none where there is none
unfoldable pub bind : {A B : Type 0} → Option A → (A → Option B) → Option B
bind None f = None
bind (Some x) f = f x

-- what comes of a value, or else something
unfoldable pub Option-elim : {A B : Type 0} → Option A → B → (A → B) → B
Option-elim None b f = b
Option-elim (Some x) b f = f x
