-- The table of helpers: what each is called, and on which others it depends.
use Rattle.std.specs.Prelude.{ℕ, ◌+◌, ◌-◌, ◌≤◌, List, [], ◌∷◌, codes, Contains, slice_index_or}

-- a helper's name, and the numbers of the helpers on which it depends
abbrev pub Row : Type 0
Row = List ℕ × List ℕ

-- the helpers in the order of their numbers, from 1 on
unfoldable pub table : List Row
table =
    (codes "apply_decorated_descriptor", []) ∷
    (codes "array_like_to_array", []) ∷
    (codes "array_with_holes", []) ∷
    (codes "array_without_holes", 2 ∷ []) ∷
    (codes "assert_this_initialized", []) ∷
    (codes "async_generator", 11 ∷ []) ∷
    (codes "async_generator_delegate", []) ∷
    (codes "async_iterator", []) ∷
    (codes "async_to_generator", []) ∷
    (codes "await_async_generator", 11 ∷ []) ∷
    (codes "await_value", []) ∷
    (codes "check_private_redeclaration", []) ∷
    (codes "class_apply_descriptor_destructure", []) ∷
    (codes "class_apply_descriptor_get", []) ∷
    (codes "class_apply_descriptor_set", []) ∷
    (codes "class_apply_descriptor_update", []) ∷
    (codes "class_call_check", []) ∷
    (codes "class_check_private_static_field_descriptor", []) ∷
    (codes "class_extract_field_descriptor", []) ∷
    (codes "class_name_tdz_error", []) ∷
    (codes "class_private_field_get", 19 ∷ 14 ∷ []) ∷
    (codes "class_private_field_init", 12 ∷ []) ∷
    (codes "class_private_field_loose_base", []) ∷
    (codes "class_private_field_loose_key", []) ∷
    (codes "class_private_field_set", 19 ∷ 15 ∷ []) ∷
    (codes "class_private_field_update", 19 ∷ 16 ∷ []) ∷
    (codes "class_private_method_get", []) ∷
    (codes "class_private_method_init", 12 ∷ []) ∷
    (codes "class_private_method_set", []) ∷
    (codes "class_static_private_field_spec_get", 87 ∷ 18 ∷ 14 ∷ []) ∷
    (codes "class_static_private_field_spec_set", 87 ∷ 18 ∷ 15 ∷ []) ∷
    (codes "class_static_private_field_update", 87 ∷ 18 ∷ 16 ∷ []) ∷
    (codes "construct", 88 ∷ 66 ∷ []) ∷
    (codes "create_class", []) ∷
    (codes "decorate", 74 ∷ 77 ∷ []) ∷
    (codes "defaults", []) ∷
    (codes "define_enumerable_properties", []) ∷
    (codes "define_property", []) ∷
    (codes "export_star", []) ∷
    (codes "extends", []) ∷
    (codes "get", 70 ∷ []) ∷
    (codes "get_prototype_of", []) ∷
    (codes "inherits", 66 ∷ []) ∷
    (codes "inherits_loose", []) ∷
    (codes "initializer_define_property", []) ∷
    (codes "initializer_warning_helper", []) ∷
    (codes "instanceof", []) ∷
    (codes "interop_require_default", []) ∷
    (codes "interop_require_wildcard", []) ∷
    (codes "is_native_function", []) ∷
    (codes "iterable_to_array", []) ∷
    (codes "iterable_to_array_limit", []) ∷
    (codes "iterable_to_array_limit_loose", []) ∷
    (codes "jsx", []) ∷
    (codes "new_arrow_check", []) ∷
    (codes "non_iterable_rest", []) ∷
    (codes "non_iterable_spread", []) ∷
    (codes "object_destructuring_empty", []) ∷
    (codes "object_spread", 38 ∷ []) ∷
    (codes "object_spread_props", []) ∷
    (codes "object_without_properties", 62 ∷ []) ∷
    (codes "object_without_properties_loose", []) ∷
    (codes "possible_constructor_return", 79 ∷ 5 ∷ []) ∷
    (codes "read_only_error", []) ∷
    (codes "set", 70 ∷ 38 ∷ []) ∷
    (codes "set_prototype_of", []) ∷
    (codes "skip_first_generator_next", []) ∷
    (codes "sliced_to_array", 3 ∷ 52 ∷ 80 ∷ 56 ∷ []) ∷
    (codes "sliced_to_array_loose", 3 ∷ 53 ∷ 80 ∷ 56 ∷ []) ∷
    (codes "super_prop_base", 42 ∷ []) ∷
    (codes "tagged_template_literal", []) ∷
    (codes "tagged_template_literal_loose", []) ∷
    (codes "throw", []) ∷
    (codes "to_array", 3 ∷ 51 ∷ 80 ∷ 56 ∷ []) ∷
    (codes "to_consumable_array", 4 ∷ 51 ∷ 80 ∷ 57 ∷ []) ∷
    (codes "to_primitive", 79 ∷ []) ∷
    (codes "to_property_key", 79 ∷ 76 ∷ []) ∷
    (codes "update", 41 ∷ 65 ∷ []) ∷
    (codes "type_of", []) ∷
    (codes "unsupported_iterable_to_array", 2 ∷ []) ∷
    (codes "wrap_async_generator", 6 ∷ []) ∷
    (codes "wrap_native_super", 33 ∷ 42 ∷ 66 ∷ 50 ∷ []) ∷
    (codes "write_only_error", []) ∷
    (codes "class_private_field_destructure", 19 ∷ 13 ∷ []) ∷
    (codes "class_static_private_field_destructure", 87 ∷ 19 ∷ 13 ∷ []) ∷
    (codes "class_static_private_method_get", 87 ∷ []) ∷
    (codes "class_check_private_static_access", []) ∷
    (codes "is_native_reflect_construct", []) ∷
    (codes "create_super", 42 ∷ 88 ∷ 63 ∷ []) ∷
    (codes "create_for_of_iterator_helper_loose", 80 ∷ []) ∷
    (codes "ts_decorate", []) ∷
    (codes "ts_generator", []) ∷
    (codes "ts_metadata", []) ∷
    (codes "ts_param", []) ∷
    (codes "ts_values", []) ∷
    (codes "apply_decs_2203_r", []) ∷
    (codes "identity", []) ∷
    (codes "dispose", []) ∷
    (codes "using", []) ∷
    (codes "using_ctx", []) ∷
    []

-- the numbers of the rows of a table whose first row has this number
abbrev pub numbers_from : ℕ → List Row → List ℕ
numbers_from number [] = []
numbers_from number (row ∷ rest) = number ∷ numbers_from (number + 1) rest

-- the number of a helper
abbrev pub IsHelper : ℕ → Type 0
IsHelper number = (1 ≤ number) × (number ≤ 100)

abbrev pub row_of : ℕ → Row
row_of number = slice_index_or table (number - 1) ([], [])

abbrev pub name_of : ℕ → List ℕ
name_of number = (row_of number).0

abbrev pub depends_on : ℕ → List ℕ
depends_on number = (row_of number).1

-- the table says of a helper that it depends on another
abbrev pub DependsOn : ℕ → ℕ → Type 0
DependsOn helper other = Contains (depends_on helper) other
