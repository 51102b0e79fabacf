-- Which node each struct and sum is.
--
-- Printed by tools/print_table.py from tools/tree.txt.
use Rattle.std.specs.Prelude.{[], ◌∷◌}
use Rattle.swc_tree_node.specs.declared.kind.Kind.TheVariants as kind
use Rattle.swc_tree_node.specs.declared.node.Node.{Node}
use Rattle.swc_tree_node.specs.declared.node.Node.TheVariants as node
use Rattle.swc_tree_types.specs.declared.ts_interface_decl.TsInterfaceDecl.{TsInterfaceDecl}
use Rattle.swc_tree_types.specs.declared.ts_type_alias_decl.TsTypeAliasDecl.{TsTypeAliasDecl}
use Rattle.swc_tree_types.specs.declared.ts_type_param.TsTypeParam.{TsTypeParam}
use Rattle.swc_tree_types.specs.declared.ts_enum_decl.TsEnumDecl.{TsEnumDecl}
use Rattle.swc_tree_types.specs.declared.ts_enum_member.TsEnumMember.{TsEnumMember}
use Rattle.swc_tree_types.specs.declared.ts_module_decl.TsModuleDecl.{TsModuleDecl}
use Rattle.swc_tree_types.specs.declared.ts_keyword_type.TsKeywordType.{TsKeywordType}
use Rattle.swc_tree_types.specs.declared.ts_type_ref.TsTypeRef.{TsTypeRef}
use Rattle.swc_tree_types.specs.declared.ts_array_type.TsArrayType.{TsArrayType}
use Rattle.swc_tree_types.specs.declared.ts_union_type.TsUnionType.{TsUnionType}
use Rattle.swc_tree_types.specs.declared.ts_type_lit.TsTypeLit.{TsTypeLit}
use Rattle.swc_tree_types.specs.declared.ts_property_signature.TsPropertySignature.{TsPropertySignature}
use Rattle.swc_tree_types.specs.declared.ts_qualified_name.TsQualifiedName.{TsQualifiedName}
use Rattle.swc_tree_types.specs.declared.ts_enum_member_id.TsEnumMemberId.{TsEnumMemberId}
use Rattle.swc_tree_types.specs.declared.ts_enum_member_id.TsEnumMemberId.TheVariants as ts_enum_member_id
use Rattle.swc_tree_types.specs.declared.ts_type.TsType.{TsType}
use Rattle.swc_tree_types.specs.declared.ts_type.TsType.TheVariants as ts_type
use Rattle.swc_tree_types.specs.declared.ts_entity_name.TsEntityName.{TsEntityName}
use Rattle.swc_tree_types.specs.declared.ts_entity_name.TsEntityName.TheVariants as ts_entity_name
use Rattle.swc_tree_handle.specs.Handles.{ident_node, optional_node}
use Rattle.swc_tree_leaves.specs.Nodes.{ident_name_node, str_node}

abbrev pub ts_interface_decl_node : TsInterfaceDecl → Node
ts_interface_decl_node x = node.Tree kind.TsInterfaceDecl (node.Span x.span ∷ ident_node x.id ∷ node.List x.type_params ∷ node.List x.extends ∷ node.List x.body ∷ [])

abbrev pub ts_type_alias_decl_node : TsTypeAliasDecl → Node
ts_type_alias_decl_node x = node.Tree kind.TsTypeAliasDecl (node.Span x.span ∷ ident_node x.id ∷ node.List x.type_params ∷ x.type_ann ∷ [])

abbrev pub ts_type_param_node : TsTypeParam → Node
ts_type_param_node x = node.Tree kind.TsTypeParam (node.Span x.span ∷ ident_node x.name ∷ optional_node x.constraint ∷ optional_node x.default ∷ [])

abbrev pub ts_enum_decl_node : TsEnumDecl → Node
ts_enum_decl_node x = node.Tree kind.TsEnumDecl (node.Span x.span ∷ ident_node x.id ∷ node.List x.members ∷ [])

abbrev pub ts_enum_member_node : TsEnumMember → Node
ts_enum_member_node x = node.Tree kind.TsEnumMember (node.Span x.span ∷ x.id ∷ optional_node x.init ∷ [])

abbrev pub ts_module_decl_node : TsModuleDecl → Node
ts_module_decl_node x = node.Tree kind.TsModuleDecl (node.Span x.span ∷ ident_node x.id ∷ node.List x.body ∷ [])

abbrev pub ts_keyword_type_node : TsKeywordType → Node
ts_keyword_type_node x = node.Tree kind.TsKeywordType (node.Span x.span ∷ node.Text x.kind ∷ [])

abbrev pub ts_type_ref_node : TsTypeRef → Node
ts_type_ref_node x = node.Tree kind.TsTypeRef (node.Span x.span ∷ x.name ∷ node.List x.type_args ∷ [])

abbrev pub ts_array_type_node : TsArrayType → Node
ts_array_type_node x = node.Tree kind.TsArrayType (node.Span x.span ∷ x.elem ∷ [])

abbrev pub ts_union_type_node : TsUnionType → Node
ts_union_type_node x = node.Tree kind.TsUnionType (node.Span x.span ∷ node.List x.types ∷ [])

abbrev pub ts_type_lit_node : TsTypeLit → Node
ts_type_lit_node x = node.Tree kind.TsTypeLit (node.Span x.span ∷ node.List x.members ∷ [])

abbrev pub ts_property_signature_node : TsPropertySignature → Node
ts_property_signature_node x = node.Tree kind.TsPropertySignature (node.Span x.span ∷ ident_name_node x.key ∷ node.Flag x.optional ∷ x.type_ann ∷ [])

abbrev pub ts_qualified_name_node : TsQualifiedName → Node
ts_qualified_name_node x = node.Tree kind.TsQualifiedName (node.Span x.span ∷ x.left ∷ ident_name_node x.right ∷ [])

abbrev pub of_ts_enum_member_id : TsEnumMemberId → Node
of_ts_enum_member_id (ts_enum_member_id.Ident x) = ident_name_node x
of_ts_enum_member_id (ts_enum_member_id.Str x) = str_node x

abbrev pub of_ts_type : TsType → Node
of_ts_type (ts_type.TsKeywordType x) = ts_keyword_type_node x
of_ts_type (ts_type.TsTypeRef x) = ts_type_ref_node x
of_ts_type (ts_type.TsArrayType x) = ts_array_type_node x
of_ts_type (ts_type.TsUnionType x) = ts_union_type_node x
of_ts_type (ts_type.TsTypeLit x) = ts_type_lit_node x

abbrev pub of_ts_entity_name : TsEntityName → Node
of_ts_entity_name (ts_entity_name.Ident x) = ident_node x
of_ts_entity_name (ts_entity_name.TsQualifiedName x) = ts_qualified_name_node x
