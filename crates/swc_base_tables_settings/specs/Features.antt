-- The features of the language that a program may need: what each is called, and which version has which.
use Rattle.std.specs.Prelude.{◌≡◌, ℕ, ◌+◌, ◌^◌, ◌≤◌, List, [], ◌∷◌, codes, Contains, slice_index_or}
use Rattle.std.specs.Int.{bit_at}
use Rattle.swc_tree_version.specs.declared.version.EsVersion.{EsVersion}
use Rattle.swc_tree_version.specs.declared.version.EsVersion.TheVariants as version

-- the features by name, in the order of their bits
unfoldable pub names : List (List ℕ)
names =
    codes "TemplateLiterals" ∷
    codes "Literals" ∷
    codes "FunctionName" ∷
    codes "ArrowFunctions" ∷
    codes "BlockScopedFunctions" ∷
    codes "Classes" ∷
    codes "ObjectSuper" ∷
    codes "ShorthandProperties" ∷
    codes "DuplicateKeys" ∷
    codes "ComputedProperties" ∷
    codes "ForOf" ∷
    codes "StickyRegex" ∷
    codes "DotAllRegex" ∷
    codes "UnicodeRegex" ∷
    codes "Spread" ∷
    codes "Parameters" ∷
    codes "Destructuring" ∷
    codes "BlockScoping" ∷
    codes "TypeOfSymbol" ∷
    codes "NewTarget" ∷
    codes "Regenerator" ∷
    codes "ExponentiationOperator" ∷
    codes "AsyncToGenerator" ∷
    codes "AsyncGeneratorFunctions" ∷
    codes "ObjectRestSpread" ∷
    codes "UnicodePropertyRegex" ∷
    codes "JsonStrings" ∷
    codes "OptionalCatchBinding" ∷
    codes "NamedCapturingGroupsRegex" ∷
    codes "MemberExpressionLiterals" ∷
    codes "PropertyLiterals" ∷
    codes "ReservedWords" ∷
    codes "ExportNamespaceFrom" ∷
    codes "NullishCoalescing" ∷
    codes "LogicalAssignmentOperators" ∷
    codes "OptionalChaining" ∷
    codes "ClassProperties" ∷
    codes "NumericSeparator" ∷
    codes "PrivateMethods" ∷
    codes "ClassStaticBlock" ∷
    codes "PrivatePropertyInObject" ∷
    codes "UnicodeEscapes" ∷
    codes "BugfixAsyncArrowsInClass" ∷
    codes "BugfixEdgeDefaultParam" ∷
    codes "BugfixTaggedTemplateCaching" ∷
    codes "BugfixSafariIdDestructuringCollisionInFunctionExpression" ∷
    codes "BugfixTransformEdgeFunctionName" ∷
    codes "BugfixTransformSafariBlockShadowing" ∷
    codes "BugfixTransformSafariForShadowing" ∷
    codes "BugfixTransformV8SpreadParametersInOptionalChaining" ∷
    []

-- each name with the number that has its bit alone; the first has this bit
unfoldable pub numbered : ℕ → List (List ℕ) → List (List ℕ × ℕ)
numbered bit [] = []
numbered bit (name ∷ rest) = (name, 2 ^ bit) ∷ numbered (bit + 1) rest

-- the table of the features
abbrev pub table : List (List ℕ × ℕ)
table = numbered 0 names

-- a set of features is a number, and has each feature at whose bit that number has a 1
abbrev pub Has : ℕ → ℕ → Type 0
Has set feature = bit_at set feature ≡ 1

-- the features that each version adds, the oldest version first
unfoldable pub added : List (List ℕ)
added =
    ([]) ∷
    (29 ∷ 30 ∷ 31 ∷ []) ∷
    (0 ∷ 2 ∷ 3 ∷ 4 ∷ 5 ∷ 6 ∷ 7 ∷ 8 ∷ 9 ∷ 10 ∷ 11 ∷ 13 ∷ 14 ∷ 15 ∷ 16 ∷ 17 ∷ 18 ∷ 19 ∷ 20 ∷ []) ∷
    (21 ∷ []) ∷
    (22 ∷ []) ∷
    (12 ∷ 24 ∷ 25 ∷ 28 ∷ []) ∷
    (27 ∷ []) ∷
    (32 ∷ 33 ∷ 35 ∷ []) ∷
    (34 ∷ []) ∷
    (36 ∷ 39 ∷ 40 ∷ []) ∷
    ([]) ∷
    []

-- the place of a version among them
abbrev pub place_of : EsVersion → ℕ
place_of version.Es3 = 0
place_of version.Es5 = 1
place_of version.Es2015 = 2
place_of version.Es2016 = 3
place_of version.Es2017 = 4
place_of version.Es2018 = 5
place_of version.Es2019 = 6
place_of version.Es2020 = 7
place_of version.Es2021 = 8
place_of version.Es2022 = 9
place_of version.EsNext = 10

-- a version has a feature that it adds or an earlier one does
abbrev pub HasFeature : EsVersion → ℕ → Type 0
HasFeature version feature = (earlier : ℕ) × (earlier ≤ place_of version) × Contains (slice_index_or added earlier []) feature
