-- `text::byte_row` meets its contract.
-- Assumes nothing.
use native.Mathlib.Omega.{arith}
use mathlib.Core.Path.{◌≡◌, sym, ap}
use Rattle.text.specs.Rows.{next_state, byte_next, row_from, byte_row}
use Rattle.text.proofs.byte_row.Goals as goal

pub returns-in-0 : goal.returns-in-0
unfolding byte_row row_from byte_next next_state
returns-in-0 c = sym (ap byte_row c.in-0.is)

pub returns-in-1 : goal.returns-in-1
unfolding byte_row row_from byte_next next_state
returns-in-1 c = sym (ap byte_row c.in-1.is)

pub returns-in-2 : goal.returns-in-2
unfolding byte_row row_from byte_next next_state
returns-in-2 c = sym (ap byte_row c.in-2.is)

pub returns-in-3 : goal.returns-in-3
unfolding byte_row row_from byte_next next_state
returns-in-3 c = sym (ap byte_row c.in-3.is)

pub returns-in-4 : goal.returns-in-4
unfolding byte_row row_from byte_next next_state
returns-in-4 c = sym (ap byte_row c.in-4.is)

pub returns-in-5 : goal.returns-in-5
unfolding byte_row row_from byte_next next_state
returns-in-5 c = sym (ap byte_row c.in-5.is)

pub returns-in-6 : goal.returns-in-6
unfolding byte_row row_from byte_next next_state
returns-in-6 c = sym (ap byte_row c.in-6.is)

pub returns-in-7 : goal.returns-in-7
unfolding byte_row row_from byte_next next_state
returns-in-7 c = sym (ap byte_row c.in-7.is)

pub returns-in-8 : goal.returns-in-8
unfolding byte_row row_from byte_next next_state
returns-in-8 c = sym (ap byte_row c.in-8.is)

pub returns-in-9 : goal.returns-in-9
unfolding byte_row row_from byte_next next_state
returns-in-9 c = sym (ap byte_row c.in-9.is)

pub returns-in-10 : goal.returns-in-10
unfolding byte_row row_from byte_next next_state
returns-in-10 c = sym (ap byte_row c.in-10.is)

pub returns-in-11 : goal.returns-in-11
unfolding byte_row row_from byte_next next_state
returns-in-11 c = sym (ap byte_row c.in-11.is)

pub returns-in-12 : goal.returns-in-12
unfolding byte_row row_from byte_next next_state
returns-in-12 c = sym (ap byte_row c.in-12.is)

pub returns-in-13 : goal.returns-in-13
unfolding byte_row row_from byte_next next_state
returns-in-13 c = sym (ap byte_row c.in-13.is)

pub returns-in-14 : goal.returns-in-14
unfolding byte_row row_from byte_next next_state
returns-in-14 c = sym (ap byte_row c.in-14.is)

pub returns-in-15 : goal.returns-in-15
unfolding byte_row row_from byte_next next_state
returns-in-15 c = sym (ap byte_row c.in-15.is)

pub returns-in-16 : goal.returns-in-16
unfolding byte_row row_from byte_next next_state
returns-in-16 c = sym (ap byte_row c.in-16.is)

pub returns-in-17 : goal.returns-in-17
unfolding byte_row row_from byte_next next_state
returns-in-17 c = sym (ap byte_row c.in-17.is)

pub returns-in-18 : goal.returns-in-18
unfolding byte_row row_from byte_next next_state
returns-in-18 c = sym (ap byte_row c.in-18.is)

pub returns-in-19 : goal.returns-in-19
unfolding byte_row row_from byte_next next_state
returns-in-19 c = sym (ap byte_row c.in-19.is)

pub returns-in-20 : goal.returns-in-20
unfolding byte_row row_from byte_next next_state
returns-in-20 c = sym (ap byte_row c.in-20.is)

pub returns-in-21 : goal.returns-in-21
unfolding byte_row row_from byte_next next_state
returns-in-21 c = sym (ap byte_row c.in-21.is)

pub returns-in-22 : goal.returns-in-22
unfolding byte_row row_from byte_next next_state
returns-in-22 c = sym (ap byte_row c.in-22.is)

pub returns-in-23 : goal.returns-in-23
unfolding byte_row row_from byte_next next_state
returns-in-23 c = sym (ap byte_row c.in-23.is)

pub returns-in-24 : goal.returns-in-24
unfolding byte_row row_from byte_next next_state
returns-in-24 c = sym (ap byte_row c.in-24.is)

pub returns-in-25 : goal.returns-in-25
unfolding byte_row row_from byte_next next_state
returns-in-25 c = sym (ap byte_row c.in-25.is)

pub returns-in-26 : goal.returns-in-26
unfolding byte_row row_from byte_next next_state
returns-in-26 c = sym (ap byte_row c.in-26.is)

pub returns-in-27 : goal.returns-in-27
unfolding byte_row row_from byte_next next_state
returns-in-27 c = sym (ap byte_row c.in-27.is)

pub returns-in-28 : goal.returns-in-28
unfolding byte_row row_from byte_next next_state
returns-in-28 c = sym (ap byte_row c.in-28.is)

pub returns-in-29 : goal.returns-in-29
unfolding byte_row row_from byte_next next_state
returns-in-29 c = sym (ap byte_row c.in-29.is)

pub returns-in-30 : goal.returns-in-30
unfolding byte_row row_from byte_next next_state
returns-in-30 c = sym (ap byte_row c.in-30.is)

pub returns-in-31 : goal.returns-in-31
unfolding byte_row row_from byte_next next_state
returns-in-31 c = sym (ap byte_row c.in-31.is)

pub returns-in-32 : goal.returns-in-32
unfolding byte_row row_from byte_next next_state
returns-in-32 c = sym (ap byte_row c.in-32.is)

pub returns-in-33 : goal.returns-in-33
unfolding byte_row row_from byte_next next_state
returns-in-33 c = sym (ap byte_row c.in-33.is)

pub returns-in-34 : goal.returns-in-34
unfolding byte_row row_from byte_next next_state
returns-in-34 c = sym (ap byte_row c.in-34.is)

pub returns-in-35 : goal.returns-in-35
unfolding byte_row row_from byte_next next_state
returns-in-35 c = sym (ap byte_row c.in-35.is)

pub returns-in-36 : goal.returns-in-36
unfolding byte_row row_from byte_next next_state
returns-in-36 c = sym (ap byte_row c.in-36.is)

pub returns-in-37 : goal.returns-in-37
unfolding byte_row row_from byte_next next_state
returns-in-37 c = sym (ap byte_row c.in-37.is)

pub returns-in-38 : goal.returns-in-38
unfolding byte_row row_from byte_next next_state
returns-in-38 c = sym (ap byte_row c.in-38.is)

pub returns-in-39 : goal.returns-in-39
unfolding byte_row row_from byte_next next_state
returns-in-39 c = sym (ap byte_row c.in-39.is)

pub returns-in-40 : goal.returns-in-40
unfolding byte_row row_from byte_next next_state
returns-in-40 c = sym (ap byte_row c.in-40.is)

pub returns-in-41 : goal.returns-in-41
unfolding byte_row row_from byte_next next_state
returns-in-41 c = sym (ap byte_row c.in-41.is)

pub returns-in-42 : goal.returns-in-42
unfolding byte_row row_from byte_next next_state
returns-in-42 c = sym (ap byte_row c.in-42.is)

pub returns-in-43 : goal.returns-in-43
unfolding byte_row row_from byte_next next_state
returns-in-43 c = sym (ap byte_row c.in-43.is)

pub returns-in-44 : goal.returns-in-44
unfolding byte_row row_from byte_next next_state
returns-in-44 c = sym (ap byte_row c.in-44.is)

pub returns-in-45 : goal.returns-in-45
unfolding byte_row row_from byte_next next_state
returns-in-45 c = sym (ap byte_row c.in-45.is)

pub returns-in-46 : goal.returns-in-46
unfolding byte_row row_from byte_next next_state
returns-in-46 c = sym (ap byte_row c.in-46.is)

pub returns-in-47 : goal.returns-in-47
unfolding byte_row row_from byte_next next_state
returns-in-47 c = sym (ap byte_row c.in-47.is)

pub returns-in-48 : goal.returns-in-48
unfolding byte_row row_from byte_next next_state
returns-in-48 c = sym (ap byte_row c.in-48.is)

pub returns-in-49 : goal.returns-in-49
unfolding byte_row row_from byte_next next_state
returns-in-49 c = sym (ap byte_row c.in-49.is)

pub returns-in-50 : goal.returns-in-50
unfolding byte_row row_from byte_next next_state
returns-in-50 c = sym (ap byte_row c.in-50.is)

pub returns-in-51 : goal.returns-in-51
unfolding byte_row row_from byte_next next_state
returns-in-51 c = sym (ap byte_row c.in-51.is)

pub returns-in-52 : goal.returns-in-52
unfolding byte_row row_from byte_next next_state
returns-in-52 c = sym (ap byte_row c.in-52.is)

pub returns-in-53 : goal.returns-in-53
unfolding byte_row row_from byte_next next_state
returns-in-53 c = sym (ap byte_row c.in-53.is)

pub returns-in-54 : goal.returns-in-54
unfolding byte_row row_from byte_next next_state
returns-in-54 c = sym (ap byte_row c.in-54.is)

pub returns-in-55 : goal.returns-in-55
unfolding byte_row row_from byte_next next_state
returns-in-55 c = sym (ap byte_row c.in-55.is)

pub returns-in-56 : goal.returns-in-56
unfolding byte_row row_from byte_next next_state
returns-in-56 c = sym (ap byte_row c.in-56.is)

pub returns-in-57 : goal.returns-in-57
unfolding byte_row row_from byte_next next_state
returns-in-57 c = sym (ap byte_row c.in-57.is)

pub returns-in-58 : goal.returns-in-58
unfolding byte_row row_from byte_next next_state
returns-in-58 c = sym (ap byte_row c.in-58.is)

pub returns-in-59 : goal.returns-in-59
unfolding byte_row row_from byte_next next_state
returns-in-59 c = sym (ap byte_row c.in-59.is)

pub returns-in-60 : goal.returns-in-60
unfolding byte_row row_from byte_next next_state
returns-in-60 c = sym (ap byte_row c.in-60.is)

pub returns-in-61 : goal.returns-in-61
unfolding byte_row row_from byte_next next_state
returns-in-61 c = sym (ap byte_row c.in-61.is)

pub returns-in-62 : goal.returns-in-62
unfolding byte_row row_from byte_next next_state
returns-in-62 c = sym (ap byte_row c.in-62.is)

pub returns-in-63 : goal.returns-in-63
unfolding byte_row row_from byte_next next_state
returns-in-63 c = sym (ap byte_row c.in-63.is)

pub returns-in-64 : goal.returns-in-64
unfolding byte_row row_from byte_next next_state
returns-in-64 c = sym (ap byte_row c.in-64.is)

pub returns-in-65 : goal.returns-in-65
unfolding byte_row row_from byte_next next_state
returns-in-65 c = sym (ap byte_row c.in-65.is)

pub returns-in-66 : goal.returns-in-66
unfolding byte_row row_from byte_next next_state
returns-in-66 c = sym (ap byte_row c.in-66.is)

pub returns-in-67 : goal.returns-in-67
unfolding byte_row row_from byte_next next_state
returns-in-67 c = sym (ap byte_row c.in-67.is)

pub returns-in-68 : goal.returns-in-68
unfolding byte_row row_from byte_next next_state
returns-in-68 c = sym (ap byte_row c.in-68.is)

pub returns-in-69 : goal.returns-in-69
unfolding byte_row row_from byte_next next_state
returns-in-69 c = sym (ap byte_row c.in-69.is)

pub returns-in-70 : goal.returns-in-70
unfolding byte_row row_from byte_next next_state
returns-in-70 c = sym (ap byte_row c.in-70.is)

pub returns-in-71 : goal.returns-in-71
unfolding byte_row row_from byte_next next_state
returns-in-71 c = sym (ap byte_row c.in-71.is)

pub returns-in-72 : goal.returns-in-72
unfolding byte_row row_from byte_next next_state
returns-in-72 c = sym (ap byte_row c.in-72.is)

pub returns-in-73 : goal.returns-in-73
unfolding byte_row row_from byte_next next_state
returns-in-73 c = sym (ap byte_row c.in-73.is)

pub returns-in-74 : goal.returns-in-74
unfolding byte_row row_from byte_next next_state
returns-in-74 c = sym (ap byte_row c.in-74.is)

pub returns-in-75 : goal.returns-in-75
unfolding byte_row row_from byte_next next_state
returns-in-75 c = sym (ap byte_row c.in-75.is)

pub returns-in-76 : goal.returns-in-76
unfolding byte_row row_from byte_next next_state
returns-in-76 c = sym (ap byte_row c.in-76.is)

pub returns-in-77 : goal.returns-in-77
unfolding byte_row row_from byte_next next_state
returns-in-77 c = sym (ap byte_row c.in-77.is)

pub returns-in-78 : goal.returns-in-78
unfolding byte_row row_from byte_next next_state
returns-in-78 c = sym (ap byte_row c.in-78.is)

pub returns-in-79 : goal.returns-in-79
unfolding byte_row row_from byte_next next_state
returns-in-79 c = sym (ap byte_row c.in-79.is)

pub returns-in-80 : goal.returns-in-80
unfolding byte_row row_from byte_next next_state
returns-in-80 c = sym (ap byte_row c.in-80.is)

pub returns-in-81 : goal.returns-in-81
unfolding byte_row row_from byte_next next_state
returns-in-81 c = sym (ap byte_row c.in-81.is)

pub returns-in-82 : goal.returns-in-82
unfolding byte_row row_from byte_next next_state
returns-in-82 c = sym (ap byte_row c.in-82.is)

pub returns-in-83 : goal.returns-in-83
unfolding byte_row row_from byte_next next_state
returns-in-83 c = sym (ap byte_row c.in-83.is)

pub returns-in-84 : goal.returns-in-84
unfolding byte_row row_from byte_next next_state
returns-in-84 c = sym (ap byte_row c.in-84.is)

pub returns-in-85 : goal.returns-in-85
unfolding byte_row row_from byte_next next_state
returns-in-85 c = sym (ap byte_row c.in-85.is)

pub returns-in-86 : goal.returns-in-86
unfolding byte_row row_from byte_next next_state
returns-in-86 c = sym (ap byte_row c.in-86.is)

pub returns-in-87 : goal.returns-in-87
unfolding byte_row row_from byte_next next_state
returns-in-87 c = sym (ap byte_row c.in-87.is)

pub returns-in-88 : goal.returns-in-88
unfolding byte_row row_from byte_next next_state
returns-in-88 c = sym (ap byte_row c.in-88.is)

pub returns-in-89 : goal.returns-in-89
unfolding byte_row row_from byte_next next_state
returns-in-89 c = sym (ap byte_row c.in-89.is)

pub returns-in-90 : goal.returns-in-90
unfolding byte_row row_from byte_next next_state
returns-in-90 c = sym (ap byte_row c.in-90.is)

pub returns-in-91 : goal.returns-in-91
unfolding byte_row row_from byte_next next_state
returns-in-91 c = sym (ap byte_row c.in-91.is)

pub returns-in-92 : goal.returns-in-92
unfolding byte_row row_from byte_next next_state
returns-in-92 c = sym (ap byte_row c.in-92.is)

pub returns-in-93 : goal.returns-in-93
unfolding byte_row row_from byte_next next_state
returns-in-93 c = sym (ap byte_row c.in-93.is)

pub returns-in-94 : goal.returns-in-94
unfolding byte_row row_from byte_next next_state
returns-in-94 c = sym (ap byte_row c.in-94.is)

pub returns-in-95 : goal.returns-in-95
unfolding byte_row row_from byte_next next_state
returns-in-95 c = sym (ap byte_row c.in-95.is)

pub returns-in-96 : goal.returns-in-96
unfolding byte_row row_from byte_next next_state
returns-in-96 c = sym (ap byte_row c.in-96.is)

pub returns-in-97 : goal.returns-in-97
unfolding byte_row row_from byte_next next_state
returns-in-97 c = sym (ap byte_row c.in-97.is)

pub returns-in-98 : goal.returns-in-98
unfolding byte_row row_from byte_next next_state
returns-in-98 c = sym (ap byte_row c.in-98.is)

pub returns-in-99 : goal.returns-in-99
unfolding byte_row row_from byte_next next_state
returns-in-99 c = sym (ap byte_row c.in-99.is)

pub returns-in-100 : goal.returns-in-100
unfolding byte_row row_from byte_next next_state
returns-in-100 c = sym (ap byte_row c.in-100.is)

pub returns-in-101 : goal.returns-in-101
unfolding byte_row row_from byte_next next_state
returns-in-101 c = sym (ap byte_row c.in-101.is)

pub returns-in-102 : goal.returns-in-102
unfolding byte_row row_from byte_next next_state
returns-in-102 c = sym (ap byte_row c.in-102.is)

pub returns-in-103 : goal.returns-in-103
unfolding byte_row row_from byte_next next_state
returns-in-103 c = sym (ap byte_row c.in-103.is)

pub returns-in-104 : goal.returns-in-104
unfolding byte_row row_from byte_next next_state
returns-in-104 c = sym (ap byte_row c.in-104.is)

pub returns-in-105 : goal.returns-in-105
unfolding byte_row row_from byte_next next_state
returns-in-105 c = sym (ap byte_row c.in-105.is)

pub returns-in-106 : goal.returns-in-106
unfolding byte_row row_from byte_next next_state
returns-in-106 c = sym (ap byte_row c.in-106.is)

pub returns-in-107 : goal.returns-in-107
unfolding byte_row row_from byte_next next_state
returns-in-107 c = sym (ap byte_row c.in-107.is)

pub returns-in-108 : goal.returns-in-108
unfolding byte_row row_from byte_next next_state
returns-in-108 c = sym (ap byte_row c.in-108.is)

pub returns-in-109 : goal.returns-in-109
unfolding byte_row row_from byte_next next_state
returns-in-109 c = sym (ap byte_row c.in-109.is)

pub returns-in-110 : goal.returns-in-110
unfolding byte_row row_from byte_next next_state
returns-in-110 c = sym (ap byte_row c.in-110.is)

pub returns-in-111 : goal.returns-in-111
unfolding byte_row row_from byte_next next_state
returns-in-111 c = sym (ap byte_row c.in-111.is)

pub returns-in-112 : goal.returns-in-112
unfolding byte_row row_from byte_next next_state
returns-in-112 c = sym (ap byte_row c.in-112.is)

pub returns-in-113 : goal.returns-in-113
unfolding byte_row row_from byte_next next_state
returns-in-113 c = sym (ap byte_row c.in-113.is)

pub returns-in-114 : goal.returns-in-114
unfolding byte_row row_from byte_next next_state
returns-in-114 c = sym (ap byte_row c.in-114.is)

pub returns-in-115 : goal.returns-in-115
unfolding byte_row row_from byte_next next_state
returns-in-115 c = sym (ap byte_row c.in-115.is)

pub returns-in-116 : goal.returns-in-116
unfolding byte_row row_from byte_next next_state
returns-in-116 c = sym (ap byte_row c.in-116.is)

pub returns-in-117 : goal.returns-in-117
unfolding byte_row row_from byte_next next_state
returns-in-117 c = sym (ap byte_row c.in-117.is)

pub returns-in-118 : goal.returns-in-118
unfolding byte_row row_from byte_next next_state
returns-in-118 c = sym (ap byte_row c.in-118.is)

pub returns-in-119 : goal.returns-in-119
unfolding byte_row row_from byte_next next_state
returns-in-119 c = sym (ap byte_row c.in-119.is)

pub returns-in-120 : goal.returns-in-120
unfolding byte_row row_from byte_next next_state
returns-in-120 c = sym (ap byte_row c.in-120.is)

pub returns-in-121 : goal.returns-in-121
unfolding byte_row row_from byte_next next_state
returns-in-121 c = sym (ap byte_row c.in-121.is)

pub returns-in-122 : goal.returns-in-122
unfolding byte_row row_from byte_next next_state
returns-in-122 c = sym (ap byte_row c.in-122.is)

pub returns-in-123 : goal.returns-in-123
unfolding byte_row row_from byte_next next_state
returns-in-123 c = sym (ap byte_row c.in-123.is)

pub returns-in-124 : goal.returns-in-124
unfolding byte_row row_from byte_next next_state
returns-in-124 c = sym (ap byte_row c.in-124.is)

pub returns-in-125 : goal.returns-in-125
unfolding byte_row row_from byte_next next_state
returns-in-125 c = sym (ap byte_row c.in-125.is)

pub returns-in-126 : goal.returns-in-126
unfolding byte_row row_from byte_next next_state
returns-in-126 c = sym (ap byte_row c.in-126.is)

pub returns-in-127 : goal.returns-in-127
unfolding byte_row row_from byte_next next_state
returns-in-127 c = sym (ap byte_row c.in-127.is)

pub returns-in-128 : goal.returns-in-128
unfolding byte_row row_from byte_next next_state
returns-in-128 c = sym (ap byte_row c.in-128.is)

pub returns-in-129 : goal.returns-in-129
unfolding byte_row row_from byte_next next_state
returns-in-129 c = sym (ap byte_row c.in-129.is)

pub returns-in-130 : goal.returns-in-130
unfolding byte_row row_from byte_next next_state
returns-in-130 c = sym (ap byte_row c.in-130.is)

pub returns-in-131 : goal.returns-in-131
unfolding byte_row row_from byte_next next_state
returns-in-131 c = sym (ap byte_row c.in-131.is)

pub returns-in-132 : goal.returns-in-132
unfolding byte_row row_from byte_next next_state
returns-in-132 c = sym (ap byte_row c.in-132.is)

pub returns-in-133 : goal.returns-in-133
unfolding byte_row row_from byte_next next_state
returns-in-133 c = sym (ap byte_row c.in-133.is)

pub returns-in-134 : goal.returns-in-134
unfolding byte_row row_from byte_next next_state
returns-in-134 c = sym (ap byte_row c.in-134.is)

pub returns-in-135 : goal.returns-in-135
unfolding byte_row row_from byte_next next_state
returns-in-135 c = sym (ap byte_row c.in-135.is)

pub returns-in-136 : goal.returns-in-136
unfolding byte_row row_from byte_next next_state
returns-in-136 c = sym (ap byte_row c.in-136.is)

pub returns-in-137 : goal.returns-in-137
unfolding byte_row row_from byte_next next_state
returns-in-137 c = sym (ap byte_row c.in-137.is)

pub returns-in-138 : goal.returns-in-138
unfolding byte_row row_from byte_next next_state
returns-in-138 c = sym (ap byte_row c.in-138.is)

pub returns-in-139 : goal.returns-in-139
unfolding byte_row row_from byte_next next_state
returns-in-139 c = sym (ap byte_row c.in-139.is)

pub returns-in-140 : goal.returns-in-140
unfolding byte_row row_from byte_next next_state
returns-in-140 c = sym (ap byte_row c.in-140.is)

pub returns-in-141 : goal.returns-in-141
unfolding byte_row row_from byte_next next_state
returns-in-141 c = sym (ap byte_row c.in-141.is)

pub returns-in-142 : goal.returns-in-142
unfolding byte_row row_from byte_next next_state
returns-in-142 c = sym (ap byte_row c.in-142.is)

pub returns-in-143 : goal.returns-in-143
unfolding byte_row row_from byte_next next_state
returns-in-143 c = sym (ap byte_row c.in-143.is)

pub returns-in-144 : goal.returns-in-144
unfolding byte_row row_from byte_next next_state
returns-in-144 c = sym (ap byte_row c.in-144.is)

pub returns-in-145 : goal.returns-in-145
unfolding byte_row row_from byte_next next_state
returns-in-145 c = sym (ap byte_row c.in-145.is)

pub returns-in-146 : goal.returns-in-146
unfolding byte_row row_from byte_next next_state
returns-in-146 c = sym (ap byte_row c.in-146.is)

pub returns-in-147 : goal.returns-in-147
unfolding byte_row row_from byte_next next_state
returns-in-147 c = sym (ap byte_row c.in-147.is)

pub returns-in-148 : goal.returns-in-148
unfolding byte_row row_from byte_next next_state
returns-in-148 c = sym (ap byte_row c.in-148.is)

pub returns-in-149 : goal.returns-in-149
unfolding byte_row row_from byte_next next_state
returns-in-149 c = sym (ap byte_row c.in-149.is)

pub returns-in-150 : goal.returns-in-150
unfolding byte_row row_from byte_next next_state
returns-in-150 c = sym (ap byte_row c.in-150.is)

pub returns-in-151 : goal.returns-in-151
unfolding byte_row row_from byte_next next_state
returns-in-151 c = sym (ap byte_row c.in-151.is)

pub returns-in-152 : goal.returns-in-152
unfolding byte_row row_from byte_next next_state
returns-in-152 c = sym (ap byte_row c.in-152.is)

pub returns-in-153 : goal.returns-in-153
unfolding byte_row row_from byte_next next_state
returns-in-153 c = sym (ap byte_row c.in-153.is)

pub returns-in-154 : goal.returns-in-154
unfolding byte_row row_from byte_next next_state
returns-in-154 c = sym (ap byte_row c.in-154.is)

pub returns-in-155 : goal.returns-in-155
unfolding byte_row row_from byte_next next_state
returns-in-155 c = sym (ap byte_row c.in-155.is)

pub returns-in-156 : goal.returns-in-156
unfolding byte_row row_from byte_next next_state
returns-in-156 c = sym (ap byte_row c.in-156.is)

pub returns-in-157 : goal.returns-in-157
unfolding byte_row row_from byte_next next_state
returns-in-157 c = sym (ap byte_row c.in-157.is)

pub returns-in-158 : goal.returns-in-158
unfolding byte_row row_from byte_next next_state
returns-in-158 c = sym (ap byte_row c.in-158.is)

pub returns-in-159 : goal.returns-in-159
unfolding byte_row row_from byte_next next_state
returns-in-159 c = sym (ap byte_row c.in-159.is)

pub returns-in-160 : goal.returns-in-160
unfolding byte_row row_from byte_next next_state
returns-in-160 c = sym (ap byte_row c.in-160.is)

pub returns-in-161 : goal.returns-in-161
unfolding byte_row row_from byte_next next_state
returns-in-161 c = sym (ap byte_row c.in-161.is)

pub returns-in-162 : goal.returns-in-162
unfolding byte_row row_from byte_next next_state
returns-in-162 c = sym (ap byte_row c.in-162.is)

pub returns-in-163 : goal.returns-in-163
unfolding byte_row row_from byte_next next_state
returns-in-163 c = sym (ap byte_row c.in-163.is)

pub returns-in-164 : goal.returns-in-164
unfolding byte_row row_from byte_next next_state
returns-in-164 c = sym (ap byte_row c.in-164.is)

pub returns-in-165 : goal.returns-in-165
unfolding byte_row row_from byte_next next_state
returns-in-165 c = sym (ap byte_row c.in-165.is)

pub returns-in-166 : goal.returns-in-166
unfolding byte_row row_from byte_next next_state
returns-in-166 c = sym (ap byte_row c.in-166.is)

pub returns-in-167 : goal.returns-in-167
unfolding byte_row row_from byte_next next_state
returns-in-167 c = sym (ap byte_row c.in-167.is)

pub returns-in-168 : goal.returns-in-168
unfolding byte_row row_from byte_next next_state
returns-in-168 c = sym (ap byte_row c.in-168.is)

pub returns-in-169 : goal.returns-in-169
unfolding byte_row row_from byte_next next_state
returns-in-169 c = sym (ap byte_row c.in-169.is)

pub returns-in-170 : goal.returns-in-170
unfolding byte_row row_from byte_next next_state
returns-in-170 c = sym (ap byte_row c.in-170.is)

pub returns-in-171 : goal.returns-in-171
unfolding byte_row row_from byte_next next_state
returns-in-171 c = sym (ap byte_row c.in-171.is)

pub returns-in-172 : goal.returns-in-172
unfolding byte_row row_from byte_next next_state
returns-in-172 c = sym (ap byte_row c.in-172.is)

pub returns-in-173 : goal.returns-in-173
unfolding byte_row row_from byte_next next_state
returns-in-173 c = sym (ap byte_row c.in-173.is)

pub returns-in-174 : goal.returns-in-174
unfolding byte_row row_from byte_next next_state
returns-in-174 c = sym (ap byte_row c.in-174.is)

pub returns-in-175 : goal.returns-in-175
unfolding byte_row row_from byte_next next_state
returns-in-175 c = sym (ap byte_row c.in-175.is)

pub returns-in-176 : goal.returns-in-176
unfolding byte_row row_from byte_next next_state
returns-in-176 c = sym (ap byte_row c.in-176.is)

pub returns-in-177 : goal.returns-in-177
unfolding byte_row row_from byte_next next_state
returns-in-177 c = sym (ap byte_row c.in-177.is)

pub returns-in-178 : goal.returns-in-178
unfolding byte_row row_from byte_next next_state
returns-in-178 c = sym (ap byte_row c.in-178.is)

pub returns-in-179 : goal.returns-in-179
unfolding byte_row row_from byte_next next_state
returns-in-179 c = sym (ap byte_row c.in-179.is)

pub returns-in-180 : goal.returns-in-180
unfolding byte_row row_from byte_next next_state
returns-in-180 c = sym (ap byte_row c.in-180.is)

pub returns-in-181 : goal.returns-in-181
unfolding byte_row row_from byte_next next_state
returns-in-181 c = sym (ap byte_row c.in-181.is)

pub returns-in-182 : goal.returns-in-182
unfolding byte_row row_from byte_next next_state
returns-in-182 c = sym (ap byte_row c.in-182.is)

pub returns-in-183 : goal.returns-in-183
unfolding byte_row row_from byte_next next_state
returns-in-183 c = sym (ap byte_row c.in-183.is)

pub returns-in-184 : goal.returns-in-184
unfolding byte_row row_from byte_next next_state
returns-in-184 c = sym (ap byte_row c.in-184.is)

pub returns-in-185 : goal.returns-in-185
unfolding byte_row row_from byte_next next_state
returns-in-185 c = sym (ap byte_row c.in-185.is)

pub returns-in-186 : goal.returns-in-186
unfolding byte_row row_from byte_next next_state
returns-in-186 c = sym (ap byte_row c.in-186.is)

pub returns-in-187 : goal.returns-in-187
unfolding byte_row row_from byte_next next_state
returns-in-187 c = sym (ap byte_row c.in-187.is)

pub returns-in-188 : goal.returns-in-188
unfolding byte_row row_from byte_next next_state
returns-in-188 c = sym (ap byte_row c.in-188.is)

pub returns-in-189 : goal.returns-in-189
unfolding byte_row row_from byte_next next_state
returns-in-189 c = sym (ap byte_row c.in-189.is)

pub returns-in-190 : goal.returns-in-190
unfolding byte_row row_from byte_next next_state
returns-in-190 c = sym (ap byte_row c.in-190.is)

pub returns-in-191 : goal.returns-in-191
unfolding byte_row row_from byte_next next_state
returns-in-191 c = sym (ap byte_row c.in-191.is)

pub returns-in-192 : goal.returns-in-192
unfolding byte_row row_from byte_next next_state
returns-in-192 c = sym (ap byte_row c.in-192.is)

pub returns-in-193 : goal.returns-in-193
unfolding byte_row row_from byte_next next_state
returns-in-193 c = sym (ap byte_row c.in-193.is)

pub returns-in-194 : goal.returns-in-194
unfolding byte_row row_from byte_next next_state
returns-in-194 c = sym (ap byte_row c.in-194.is)

pub returns-in-195 : goal.returns-in-195
unfolding byte_row row_from byte_next next_state
returns-in-195 c = sym (ap byte_row c.in-195.is)

pub returns-in-196 : goal.returns-in-196
unfolding byte_row row_from byte_next next_state
returns-in-196 c = sym (ap byte_row c.in-196.is)

pub returns-in-197 : goal.returns-in-197
unfolding byte_row row_from byte_next next_state
returns-in-197 c = sym (ap byte_row c.in-197.is)

pub returns-in-198 : goal.returns-in-198
unfolding byte_row row_from byte_next next_state
returns-in-198 c = sym (ap byte_row c.in-198.is)

pub returns-in-199 : goal.returns-in-199
unfolding byte_row row_from byte_next next_state
returns-in-199 c = sym (ap byte_row c.in-199.is)

pub returns-in-200 : goal.returns-in-200
unfolding byte_row row_from byte_next next_state
returns-in-200 c = sym (ap byte_row c.in-200.is)

pub returns-in-201 : goal.returns-in-201
unfolding byte_row row_from byte_next next_state
returns-in-201 c = sym (ap byte_row c.in-201.is)

pub returns-in-202 : goal.returns-in-202
unfolding byte_row row_from byte_next next_state
returns-in-202 c = sym (ap byte_row c.in-202.is)

pub returns-in-203 : goal.returns-in-203
unfolding byte_row row_from byte_next next_state
returns-in-203 c = sym (ap byte_row c.in-203.is)

pub returns-in-204 : goal.returns-in-204
unfolding byte_row row_from byte_next next_state
returns-in-204 c = sym (ap byte_row c.in-204.is)

pub returns-in-205 : goal.returns-in-205
unfolding byte_row row_from byte_next next_state
returns-in-205 c = sym (ap byte_row c.in-205.is)

pub returns-in-206 : goal.returns-in-206
unfolding byte_row row_from byte_next next_state
returns-in-206 c = sym (ap byte_row c.in-206.is)

pub returns-in-207 : goal.returns-in-207
unfolding byte_row row_from byte_next next_state
returns-in-207 c = sym (ap byte_row c.in-207.is)

pub returns-in-208 : goal.returns-in-208
unfolding byte_row row_from byte_next next_state
returns-in-208 c = sym (ap byte_row c.in-208.is)

pub returns-in-209 : goal.returns-in-209
unfolding byte_row row_from byte_next next_state
returns-in-209 c = sym (ap byte_row c.in-209.is)

pub returns-in-210 : goal.returns-in-210
unfolding byte_row row_from byte_next next_state
returns-in-210 c = sym (ap byte_row c.in-210.is)

pub returns-in-211 : goal.returns-in-211
unfolding byte_row row_from byte_next next_state
returns-in-211 c = sym (ap byte_row c.in-211.is)

pub returns-in-212 : goal.returns-in-212
unfolding byte_row row_from byte_next next_state
returns-in-212 c = sym (ap byte_row c.in-212.is)

pub returns-in-213 : goal.returns-in-213
unfolding byte_row row_from byte_next next_state
returns-in-213 c = sym (ap byte_row c.in-213.is)

pub returns-in-214 : goal.returns-in-214
unfolding byte_row row_from byte_next next_state
returns-in-214 c = sym (ap byte_row c.in-214.is)

pub returns-in-215 : goal.returns-in-215
unfolding byte_row row_from byte_next next_state
returns-in-215 c = sym (ap byte_row c.in-215.is)

pub returns-in-216 : goal.returns-in-216
unfolding byte_row row_from byte_next next_state
returns-in-216 c = sym (ap byte_row c.in-216.is)

pub returns-in-217 : goal.returns-in-217
unfolding byte_row row_from byte_next next_state
returns-in-217 c = sym (ap byte_row c.in-217.is)

pub returns-in-218 : goal.returns-in-218
unfolding byte_row row_from byte_next next_state
returns-in-218 c = sym (ap byte_row c.in-218.is)

pub returns-in-219 : goal.returns-in-219
unfolding byte_row row_from byte_next next_state
returns-in-219 c = sym (ap byte_row c.in-219.is)

pub returns-in-220 : goal.returns-in-220
unfolding byte_row row_from byte_next next_state
returns-in-220 c = sym (ap byte_row c.in-220.is)

pub returns-in-221 : goal.returns-in-221
unfolding byte_row row_from byte_next next_state
returns-in-221 c = sym (ap byte_row c.in-221.is)

pub returns-in-222 : goal.returns-in-222
unfolding byte_row row_from byte_next next_state
returns-in-222 c = sym (ap byte_row c.in-222.is)

pub returns-in-223 : goal.returns-in-223
unfolding byte_row row_from byte_next next_state
returns-in-223 c = sym (ap byte_row c.in-223.is)

pub returns-in-224 : goal.returns-in-224
unfolding byte_row row_from byte_next next_state
returns-in-224 c = sym (ap byte_row c.in-224.is)

pub returns-in-225 : goal.returns-in-225
unfolding byte_row row_from byte_next next_state
returns-in-225 c = sym (ap byte_row c.in-225.is)

pub returns-in-226 : goal.returns-in-226
unfolding byte_row row_from byte_next next_state
returns-in-226 c = sym (ap byte_row c.in-226.is)

pub returns-in-227 : goal.returns-in-227
unfolding byte_row row_from byte_next next_state
returns-in-227 c = sym (ap byte_row c.in-227.is)

pub returns-in-228 : goal.returns-in-228
unfolding byte_row row_from byte_next next_state
returns-in-228 c = sym (ap byte_row c.in-228.is)

pub returns-in-229 : goal.returns-in-229
unfolding byte_row row_from byte_next next_state
returns-in-229 c = sym (ap byte_row c.in-229.is)

pub returns-in-230 : goal.returns-in-230
unfolding byte_row row_from byte_next next_state
returns-in-230 c = sym (ap byte_row c.in-230.is)

pub returns-in-231 : goal.returns-in-231
unfolding byte_row row_from byte_next next_state
returns-in-231 c = sym (ap byte_row c.in-231.is)

pub returns-in-232 : goal.returns-in-232
unfolding byte_row row_from byte_next next_state
returns-in-232 c = sym (ap byte_row c.in-232.is)

pub returns-in-233 : goal.returns-in-233
unfolding byte_row row_from byte_next next_state
returns-in-233 c = sym (ap byte_row c.in-233.is)

pub returns-in-234 : goal.returns-in-234
unfolding byte_row row_from byte_next next_state
returns-in-234 c = sym (ap byte_row c.in-234.is)

pub returns-in-235 : goal.returns-in-235
unfolding byte_row row_from byte_next next_state
returns-in-235 c = sym (ap byte_row c.in-235.is)

pub returns-in-236 : goal.returns-in-236
unfolding byte_row row_from byte_next next_state
returns-in-236 c = sym (ap byte_row c.in-236.is)

pub returns-in-237 : goal.returns-in-237
unfolding byte_row row_from byte_next next_state
returns-in-237 c = sym (ap byte_row c.in-237.is)

pub returns-in-238 : goal.returns-in-238
unfolding byte_row row_from byte_next next_state
returns-in-238 c = sym (ap byte_row c.in-238.is)

pub returns-in-239 : goal.returns-in-239
unfolding byte_row row_from byte_next next_state
returns-in-239 c = sym (ap byte_row c.in-239.is)

pub returns-in-240 : goal.returns-in-240
unfolding byte_row row_from byte_next next_state
returns-in-240 c = sym (ap byte_row c.in-240.is)

pub returns-in-241 : goal.returns-in-241
unfolding byte_row row_from byte_next next_state
returns-in-241 c = sym (ap byte_row c.in-241.is)

pub returns-in-242 : goal.returns-in-242
unfolding byte_row row_from byte_next next_state
returns-in-242 c = sym (ap byte_row c.in-242.is)

pub returns-in-243 : goal.returns-in-243
unfolding byte_row row_from byte_next next_state
returns-in-243 c = sym (ap byte_row c.in-243.is)

pub returns-in-244 : goal.returns-in-244
unfolding byte_row row_from byte_next next_state
returns-in-244 c = sym (ap byte_row c.in-244.is)

pub returns-in-245 : goal.returns-in-245
unfolding byte_row row_from byte_next next_state
returns-in-245 c = sym (ap byte_row c.in-245.is)

pub returns-in-246 : goal.returns-in-246
unfolding byte_row row_from byte_next next_state
returns-in-246 c = sym (ap byte_row c.in-246.is)

pub returns-in-247 : goal.returns-in-247
unfolding byte_row row_from byte_next next_state
returns-in-247 c = sym (ap byte_row c.in-247.is)

pub returns-in-248 : goal.returns-in-248
unfolding byte_row row_from byte_next next_state
returns-in-248 c = sym (ap byte_row c.in-248.is)

pub returns-in-249 : goal.returns-in-249
unfolding byte_row row_from byte_next next_state
returns-in-249 c = sym (ap byte_row c.in-249.is)

pub returns-in-250 : goal.returns-in-250
unfolding byte_row row_from byte_next next_state
returns-in-250 c = sym (ap byte_row c.in-250.is)

pub returns-in-251 : goal.returns-in-251
unfolding byte_row row_from byte_next next_state
returns-in-251 c = sym (ap byte_row c.in-251.is)

pub returns-in-252 : goal.returns-in-252
unfolding byte_row row_from byte_next next_state
returns-in-252 c = sym (ap byte_row c.in-252.is)

pub returns-in-253 : goal.returns-in-253
unfolding byte_row row_from byte_next next_state
returns-in-253 c = sym (ap byte_row c.in-253.is)

pub returns-in-254 : goal.returns-in-254
unfolding byte_row row_from byte_next next_state
returns-in-254 c = sym (ap byte_row c.in-254.is)

pub returns-in_default : goal.returns-in_default
unfolding byte_row row_from byte_next next_state
returns-in_default c = let e : c.args.b ≡ 255 = omega arith in sym (ap byte_row e)
