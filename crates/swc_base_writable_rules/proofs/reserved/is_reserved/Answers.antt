use Rattle.std.proofs.Common.{◌≡◌, ◌≢◌, ◌∙◌, get_or, arith, rules}
use Rattle.std.proofs.lemmas.Bool.Decides.{nat_tests}
use Rattle.swc_base_writable_rules.proofs.Letters.{among, none}
use Rattle.swc_base_writable_rules.proofs.reserved.is_reserved.Goals as goal

pub returns-in-97 : goal.returns-in-97
returns-in-97 c =
    let is : get_or c.args.text.now 0 0 ≡ 97 = cc in
    c.is_one_of.ensures ∙ among 97 c.args.text.now is

pub returns-in-98 : goal.returns-in-98
returns-in-98 c =
    let is : get_or c.args.text.now 0 0 ≡ 98 = cc in
    c.is_one_of-in-98.ensures ∙ among 98 c.args.text.now is

pub returns-in-99 : goal.returns-in-99
returns-in-99 c =
    let is : get_or c.args.text.now 0 0 ≡ 99 = cc in
    c.is_one_of-in-99.ensures ∙ among 99 c.args.text.now is

pub returns-in-100 : goal.returns-in-100
returns-in-100 c =
    let is : get_or c.args.text.now 0 0 ≡ 100 = cc in
    c.is_one_of-in-100.ensures ∙ among 100 c.args.text.now is

pub returns-in-101 : goal.returns-in-101
returns-in-101 c =
    let is : get_or c.args.text.now 0 0 ≡ 101 = cc in
    c.is_one_of-in-101.ensures ∙ among 101 c.args.text.now is

pub returns-in-102 : goal.returns-in-102
returns-in-102 c =
    let is : get_or c.args.text.now 0 0 ≡ 102 = cc in
    c.is_one_of-in-102.ensures ∙ among 102 c.args.text.now is

pub returns-in-105 : goal.returns-in-105
returns-in-105 c =
    let is : get_or c.args.text.now 0 0 ≡ 105 = cc in
    c.is_one_of-in-105.ensures ∙ among 105 c.args.text.now is

pub returns-in-108 : goal.returns-in-108
returns-in-108 c =
    let is : get_or c.args.text.now 0 0 ≡ 108 = cc in
    c.is_one_of-in-108.ensures ∙ among 108 c.args.text.now is

pub returns-in-110 : goal.returns-in-110
returns-in-110 c =
    let is : get_or c.args.text.now 0 0 ≡ 110 = cc in
    c.is_one_of-in-110.ensures ∙ among 110 c.args.text.now is

pub returns-in-112 : goal.returns-in-112
returns-in-112 c =
    let is : get_or c.args.text.now 0 0 ≡ 112 = cc in
    c.is_one_of-in-112.ensures ∙ among 112 c.args.text.now is

pub returns-in-114 : goal.returns-in-114
returns-in-114 c =
    let is : get_or c.args.text.now 0 0 ≡ 114 = cc in
    c.is_one_of-in-114.ensures ∙ among 114 c.args.text.now is

pub returns-in-115 : goal.returns-in-115
returns-in-115 c =
    let is : get_or c.args.text.now 0 0 ≡ 115 = cc in
    c.is_one_of-in-115.ensures ∙ among 115 c.args.text.now is

pub returns-in-116 : goal.returns-in-116
returns-in-116 c =
    let is : get_or c.args.text.now 0 0 ≡ 116 = cc in
    c.is_one_of-in-116.ensures ∙ among 116 c.args.text.now is

pub returns-in-118 : goal.returns-in-118
returns-in-118 c =
    let is : get_or c.args.text.now 0 0 ≡ 118 = cc in
    c.is_one_of-in-118.ensures ∙ among 118 c.args.text.now is

pub returns-in-119 : goal.returns-in-119
returns-in-119 c =
    let is : get_or c.args.text.now 0 0 ≡ 119 = cc in
    c.is_one_of-in-119.ensures ∙ among 119 c.args.text.now is

pub returns-in-121 : goal.returns-in-121
returns-in-121 c =
    let is : get_or c.args.text.now 0 0 ≡ 121 = cc in
    c.is_one_of-in-121.ensures ∙ among 121 c.args.text.now is

pub returns-in_default : goal.returns-in_default
returns-in_default c =
    let is : get_or c.args.text.now 0 0 ≡ c.first.result = cc in
    let own = c.in_default.in_default-own in
    let not_a : c.first.result ≢ 97 = first_of (omega arith, search rules, grind (arith, nat_tests)) in
    let not_b : c.first.result ≢ 98 = first_of (omega arith, search rules, grind (arith, nat_tests)) in
    let not_c : c.first.result ≢ 99 = first_of (omega arith, search rules, grind (arith, nat_tests)) in
    let not_d : c.first.result ≢ 100 = first_of (omega arith, search rules, grind (arith, nat_tests)) in
    let not_e : c.first.result ≢ 101 = first_of (omega arith, search rules, grind (arith, nat_tests)) in
    let not_f : c.first.result ≢ 102 = first_of (omega arith, search rules, grind (arith, nat_tests)) in
    let not_i : c.first.result ≢ 105 = first_of (omega arith, search rules, grind (arith, nat_tests)) in
    let not_l : c.first.result ≢ 108 = first_of (omega arith, search rules, grind (arith, nat_tests)) in
    let not_n : c.first.result ≢ 110 = first_of (omega arith, search rules, grind (arith, nat_tests)) in
    let not_p : c.first.result ≢ 112 = first_of (omega arith, search rules, grind (arith, nat_tests)) in
    let not_r : c.first.result ≢ 114 = first_of (omega arith, search rules, grind (arith, nat_tests)) in
    let not_s : c.first.result ≢ 115 = first_of (omega arith, search rules, grind (arith, nat_tests)) in
    let not_t : c.first.result ≢ 116 = first_of (omega arith, search rules, grind (arith, nat_tests)) in
    let not_v : c.first.result ≢ 118 = first_of (omega arith, search rules, grind (arith, nat_tests)) in
    let not_w : c.first.result ≢ 119 = first_of (omega arith, search rules, grind (arith, nat_tests)) in
    let not_y : c.first.result ≢ 121 = first_of (omega arith, search rules, grind (arith, nat_tests)) in
    none c.first.result c.args.text.now is not_a not_b not_c not_d not_e not_f not_i not_l not_n not_p not_r not_s not_t not_v not_w not_y
