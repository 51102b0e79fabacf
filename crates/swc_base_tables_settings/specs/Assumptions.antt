-- What may be assumed of a program, and how that stands in JSON.
use Rattle.std.specs.Prelude.{ℕ, List, [], ◌∷◌, codes, Bool, false, not, bytes_eq, Option, Some, None, Result, Ok, Err, map, if◌then◌else◌, option_and_then, unwrap_or}
use Rattle.std.specs.List.{list_any}
use Rattle.std.specs.Option.{is_some}
use Rattle.serde_json.specs.Data.{Data, null, boolean, number, string, array, object, Members, no_members, member}
use Rattle.serde_json.specs.Find.{as_bool, get}
use Rattle.swc_base_tables_settings.specs.declared.assumptions.Assumptions.{Assumptions}
use Rattle.swc_base_tables_settings.specs.declared.error.AssumptionsError.{AssumptionsError}
use Rattle.swc_base_tables_settings.specs.declared.error.AssumptionsError.TheVariants as error

-- the keys, in the order of their bytes, which is that of the fields too
unfoldable pub keys : List (List ℕ)
keys =
    codes "arrayLikeIsIterable" ∷
    codes "constantReexports" ∷
    codes "constantSuper" ∷
    codes "enumerableModuleMeta" ∷
    codes "ignoreFunctionLength" ∷
    codes "ignoreFunctionName" ∷
    codes "ignoreToPrimitiveHint" ∷
    codes "iterableIsArray" ∷
    codes "mutableTemplateObject" ∷
    codes "noClassCalls" ∷
    codes "noDocumentAll" ∷
    codes "noIncompleteNsImportDetection" ∷
    codes "noNewArrows" ∷
    codes "objectRestNoSymbols" ∷
    codes "privateFieldsAsProperties" ∷
    codes "pureGetters" ∷
    codes "setClassMethods" ∷
    codes "setComputedProperties" ∷
    codes "setPublicClassFields" ∷
    codes "setSpreadProperties" ∷
    codes "skipForOfIteratorClosing" ∷
    codes "superIsCallableConstructor" ∷
    codes "tsEnumIsReadonly" ∷
    []

-- the fields in their order
abbrev pub flags : Assumptions → List Bool
flags a =
    a.array_like_is_iterable ∷
    a.constant_reexports ∷
    a.constant_super ∷
    a.enumerable_module_meta ∷
    a.ignore_function_length ∷
    a.ignore_function_name ∷
    a.ignore_to_primitive_hint ∷
    a.iterable_is_array ∷
    a.mutable_template_object ∷
    a.no_class_calls ∷
    a.no_document_all ∷
    a.no_incomplete_ns_import_detection ∷
    a.no_new_arrows ∷
    a.object_rest_no_symbols ∷
    a.private_fields_as_properties ∷
    a.pure_getters ∷
    a.set_class_methods ∷
    a.set_computed_properties ∷
    a.set_public_class_fields ∷
    a.set_spread_properties ∷
    a.skip_for_of_iterator_closing ∷
    a.super_is_callable_constructor ∷
    a.ts_enum_is_readonly ∷
    []

-- the members of these keys with these flags
abbrev pub members_with : List (List ℕ) → List Bool → Members
members_with [] flags = no_members
members_with (key ∷ rest) [] = no_members
members_with (key ∷ rest) (flag ∷ flags) = member key (boolean flag) (members_with rest flags)

-- whether a key is that of an assumption
abbrev pub is_key : List ℕ → Bool
is_key key = list_any (λ known. bytes_eq known key) keys

-- what is wrong with a member
abbrev pub fault_of : List ℕ → Data → Option AssumptionsError
fault_of key value =
    if not (is_key key) then Some error.UnknownKey else if is_some (as_bool value) then None else Some error.NotBool

-- the first of two faults
abbrev pub or_else : Option AssumptionsError → Option AssumptionsError → Option AssumptionsError
or_else (Some e) later = Some e
or_else None later = later

-- the fault of the first member that has one; members stand in the order of the bytes of their keys
abbrev pub first_fault : Members → Option AssumptionsError
first_fault no_members = None
first_fault (member key value rest) = or_else (fault_of key value) (first_fault rest)

-- the flag that a value gives to a key; an absent key is false
abbrev pub flag_in : Data → List ℕ → Bool
flag_in value key = unwrap_or (option_and_then as_bool (get key value)) false

-- what a value without a fault says, and the fault of others
abbrev pub read_all : Data → Option AssumptionsError → Result (List Bool) AssumptionsError
read_all value (Some e) = Err e
read_all value None = Ok (map (flag_in value) keys)

-- what a value is read as
abbrev pub read : Data → Result (List Bool) AssumptionsError
read null = Err error.NotObject
read (boolean b) = Err error.NotObject
read (number n) = Err error.NotObject
read (string s) = Err error.NotObject
read (array items) = Err error.NotObject
read (object these) = read_all (object these) (first_fault these)
