-- The tokens that a value is written as: for private clauses.
use Rattle.std.specs.Prelude.{List}
use Rattle.json.specs.Token.{Token}
use Rattle.json.specs.Tree.{json_tokens, items_tokens, members_tokens}
use Rattle.json.specs.Json.{Json, Items, Members}

unfoldable pub tokens_of : Json → List Token
tokens_of d = json_tokens d

-- with the closing bracket
unfoldable pub tokens_of_items : Items → List Token
tokens_of_items ds = items_tokens ds

unfoldable pub tokens_of_members : Members → List Token
tokens_of_members ms = members_tokens ms
